-- The few words that the rules are written with
use Rattle.std.specs.Prelude.{ℕ, zero, suc, Bool, true, false, ◌&&◌, ◌||◌, not, List, [], ◌∷◌, ◌++◌, get_or, take, replicate, eqb, if◌then◌else◌}

-- those of the list that are p, in their order
unfoldable pub those : {A : Type 0} → (A → Bool) → List A → List A
those p [] = []
those p (x ∷ xs) = if p x then x ∷ those p xs else those p xs

-- f of each
unfoldable pub each : {A B : Type 0} → (A → B) → List A → List B
each f [] = []
each f (x ∷ xs) = f x ∷ each f xs

-- the lists one after the other
unfoldable pub joined : {A : Type 0} → List (List A) → List A
joined [] = []
joined (l ∷ ls) = l ++ joined ls

-- every one of them is p
unfoldable pub every : {A : Type 0} → (A → Bool) → List A → Bool
every p [] = true
every p (x ∷ xs) = p x && every p xs

-- some one of them is p
unfoldable pub some : {A : Type 0} → (A → Bool) → List A → Bool
some p [] = false
some p (x ∷ xs) = p x || some p xs

-- none of them is p
abbrev pub none : {A : Type 0} → (A → Bool) → List A → Bool
none p l = not (some p l)

-- the place of the first that is p, or the length where there is none
unfoldable pub place : {A : Type 0} → (A → Bool) → List A → ℕ
place p [] = 0
place p (x ∷ xs) = if p x then 0 else suc (place p xs)

-- the first that is p; d where there is none
abbrev pub first : {A : Type 0} → A → (A → Bool) → List A → A
first d p l = get_or l (place p l) d

-- a table by numbers: what stands under each
pub record Numbered (A : Type 0) : Type 0 where
  pub number : ℕ
  pub entry : A

infixr 5 ◌⇒◌⨾◌
abbrev pub ◌⇒◌⨾◌ : {A : Type 0} → ℕ → A → List (Numbered A) → List (Numbered A)
n ⇒ x ⨾ rest = record { number = n; entry = x } ∷ rest

-- what stands under the number; d where nothing does
abbrev pub under : {A : Type 0} → A → List (Numbered A) → (number : ℕ) → A
under d l n = (first (record { number = n; entry = d }) (λ x. eqb x.number n) l).entry

-- the elements taken into s one after another
unfoldable pub fold : {S A : Type 0} → (S → A → S) → S → List A → S
fold f s [] = s
fold f s (x ∷ xs) = fold f (f s x) xs

-- n numbers from i on
unfoldable pub from : ℕ → ℕ → List ℕ
from i zero = []
from i (suc n) = i ∷ from (suc i) n

-- the numbers below n, ascending
abbrev pub numbers : ℕ → List ℕ
numbers n = from 0 n

-- an array of n places with l in its first ones and the unused ones zero
abbrev pub filled : {A : Type 0} → ℕ → (unused : A) → List A → List A
filled n unused l = take n (l ++ replicate n unused)
