-- What std's `find` and `fold` give, in the words of the rules. (Others: table_sets' Chains.)
use Prim.Native.Nat.{suc}
use mathlib.Core.Path.{◌≡◌, refl, ◌∙◌}
use mathlib.Core.Bool.{Bool, true, false, cond}
use mathlib.Core.List.{List, [], ◌∷◌}
use lib.ListN.{get_or}
use Rattle.std.specs.List.{find, fold as fold_from}
use Rattle.std.specs.Option.{MatchOption, unwrap_or, option_map}
use Rattle.std.specs.Prelude.{Option, Some, None}
use denote.Ref.{Bor}
use Rattle.rules.specs.Words.{place, first, fold}

module _ {A : Type 0} (p : A → Bool) where
  pub first_find : (d : A) (l : List A) → first d p l ≡ unwrap_or (find p l) d
  unfolding place
  first_find d [] = refl
  first_find d (x ∷ xs) = go (p x) (first_find d xs)
    where
      go : (b : Bool) → first d p xs ≡ unwrap_or (find p xs) d → get_or (x ∷ xs) (cond b 0 (suc (place p xs))) d ≡ unwrap_or (cond b (Some x) (find p xs)) d
      go true h = refl
      go false h = h

pub fold_is : {S A : Type 0} (f : S → A → S) (s : S) (l : List A) → fold f s l ≡ fold_from f s l
unfolding fold
fold_is f s [] = refl
fold_is f s (x ∷ xs) = fold_is f (f s x) xs

-- what a search gives: f of the first that is p, or z
module _ {A B : Type 0} (p : A → Bool) (f : A → B) (d : A) (l : List A) where
  pub found : (r : Option (Bor A)) → option_map (λ y. y.now) r ≡ find p l → (v z : B) {Q : Bor A → Type 0} → MatchOption r (v ≡ z) Q → z ≡ f d → ((x : Bor A) → Q x → v ≡ f x.now) → v ≡ f (unwrap_or (find p l) d)
  found None h v z m k g = rw (← h) (m ∙ k)
  found (Some x) h v z m k g = rw (← h) (g x m)
