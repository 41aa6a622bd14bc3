-- Our words (rules/specs/Words) and the library's: what an iterator's chain over an array gives, as the rules say it.
-- The rules go over the numbers below n, and look under each in an array of n places. That the chain gives the library's word is
-- `search rules`, or, of `any`, `all` and `position`, `search (rules, chains)` with Rattle.std.proofs.iter.runs.Made.{chains}.
use Prim.Native.Nat.{ℕ, ◌+◌, suc}
use mathlib.Core.Path.{◌≡◌, refl, sym, ap, ◌∙◌}
use mathlib.Core.Bool.{Bool, true, false, cond, beq, ◌&&◌, ◌||◌}
use mathlib.Core.List.{List, [], ◌∷◌, map}
use lib.ListN.{length, get_or}
use Rattle.std.specs.List.{filter, list_all, list_any, count_by, position, position_or_len}
use Rattle.std.specs.Prelude.{None, Some, unwrap_or, nat_lt}
use Rattle.std.proofs.Common.{arith, one-add}
use Rattle.std.proofs.lemmas.List.Recursion.{is_position_or_len, same_from_clauses}
use Rattle.std.proofs.lemmas.List.Sums.{length-filter}
use Rattle.rules.specs.Words.{those, each, every, some, place, numbers}
use Rattle.rules.proofs.Lists.{each-length}
use Rattle.rules.proofs.Loops.{each_of, place-le}

-- ---- over the list itself

module _ {A : Type 0} (p : A → Bool) where
  pub some-any : (l : List A) → some p l ≡ list_any p l
  unfolding some
  some-any = same_from_clauses (some p) (list_any p) (λ x b. p x || b) refl (λ x xs. refl) (λ x xs. refl)

  pub every-all : (l : List A) → every p l ≡ list_all p l
  unfolding every
  every-all = same_from_clauses (every p) (list_all p) (λ x b. p x && b) refl (λ x xs. refl) (λ x xs. refl)

  pub those-filter : (l : List A) → those p l ≡ filter p l
  unfolding those
  those-filter = same_from_clauses (those p) (filter p) (λ x l. cond (p x) (x ∷ l) l) refl (λ x xs. refl) (λ x xs. refl)

  pub place-position : (l : List A) → place p l ≡ position_or_len p l
  unfolding place
  place-position = is_position_or_len (place p) p refl (λ x xs. at (p x) (place p xs))
    where
      at : (b : Bool) (n : ℕ) → cond b 0 (suc n) ≡ cond b 0 (1 + n)
      at true n = refl
      at false n = sym (one-add n)

  -- `position(..).unwrap_or(n)`
  pub position_or : (l : List A) (n : ℕ) → length l ≡ n → unwrap_or (position p l) n ≡ place p l
  position_or l n h = go (nat_lt (position_or_len p l) (length l)) refl ∙ sym (place-position l)
    where
      go : (b : Bool) → nat_lt (position_or_len p l) (length l) ≡ b → unwrap_or (cond b (Some (position_or_len p l)) None) n ≡ position_or_len p l
      go true k = refl
      go false k = grind (arith, k, h, place-le p l, place-position l)

  pub length-those : (l : List A) → length (those p l) ≡ count_by p l
  length-those l = ap length (those-filter l) ∙ length-filter p l

pub each-map : {A B : Type 0} (f : A → B) (l : List A) → each f l ≡ map f l
unfolding each
each-map f = same_from_clauses (each f) (map f) (λ x l. f x ∷ l) refl (λ x xs. refl) (λ x xs. refl)

-- ---- over the numbers

-- an array of n places is what it has under each number
pub listed : {A : Type 0} (d : A) (n : ℕ) (l : List A) → length l ≡ n → l ≡ each (λ i. get_or l i d) (numbers n)
listed d n l h = each_of d (λ i. get_or l i d) n l h (λ i k. refl)

-- of what f gives at each
module _ {A B : Type 0} (p : B → Bool) (f : A → B) where
  pub some-each : (l : List A) → some p (each f l) ≡ some (λ x. p (f x)) l
  unfolding some each
  some-each [] = refl
  some-each (x ∷ xs) = ap (λ (b : Bool). p (f x) || b) (some-each xs)

  pub every-each : (l : List A) → every p (each f l) ≡ every (λ x. p (f x)) l
  unfolding every each
  every-each [] = refl
  every-each (x ∷ xs) = ap (λ (b : Bool). p (f x) && b) (every-each xs)

  pub those-each : (l : List A) → those p (each f l) ≡ each f (those (λ x. p (f x)) l)
  unfolding those each
  those-each [] = refl
  those-each (x ∷ xs) = go (p (f x)) (those-each xs)
    where
      go : (b : Bool) → those p (each f xs) ≡ each f (those (λ y. p (f y)) xs)
          → cond b (f x ∷ those p (each f xs)) (those p (each f xs)) ≡ each f (cond b (x ∷ those (λ y. p (f y)) xs) (those (λ y. p (f y)) xs))
      go true h = ap (λ (t : List B). f x ∷ t) h
      go false h = h

module _ {A : Type 0} (p : A → Bool) (d : A) (n : ℕ) (l : List A) (h : length l ≡ n) where
  pub some_listed : some (λ i. p (get_or l i d)) (numbers n) ≡ list_any p l
  some_listed = sym (some-each p (λ i. get_or l i d) (numbers n)) ∙ ap (some p) (sym (listed d n l h)) ∙ some-any p l

  pub count_listed : length (those (λ i. p (get_or l i d)) (numbers n)) ≡ count_by p l
  count_listed =
      sym (each-length (λ i. get_or l i d) (those (λ i. p (get_or l i d)) (numbers n))) ∙ ap length (sym (those-each p (λ i. get_or l i d) (numbers n)) ∙ ap (those p) (sym (listed d n l h)))
      ∙ length-those p l

-- `contains(&true)`
pub true_listed : (n : ℕ) (l : List Bool) → length l ≡ n → some (λ i. get_or l i false) (numbers n) ≡ list_any (λ b. beq b true) l
true_listed n l h = some_listed (λ b. b) false n l h ∙ itself l
  where
    itself : (l : List Bool) → list_any (λ b. b) l ≡ list_any (λ b. beq b true) l
    itself [] = refl
    itself (true ∷ l) = refl
    itself (false ∷ l) = itself l
