-- Steps by their numbers, the operand of a sort, and how many operands a kind has
use Rattle.std.specs.Prelude.{Result, Ok, Err, Some, find, filter, count_by}
use Rattle.std.specs.List.{list_all}
use Rattle.std.specs.Option.{option_map_or}
use Prim.Native.Nat.{ℕ, suc}
use mathlib.Core.Path.{◌≡◌, refl, sym, ap, ◌∙◌}
use mathlib.Core.Bool.{Bool, true, false, cond}
use mathlib.Core.List.{List, [], ◌∷◌}
use Rattle.std.proofs.Math.Bool.{and_assoc, and-true}
use Rattle.std.proofs.lemmas.List.Sums.{length-filter}
use native.Mathlib.Omega.{arith}
use lib.Dec.{eqb}
use lib.ListN.{length, get_or}
use Rattle.rules.specs.declared.Creation.{Creation}
use Rattle.rules.specs.declared.Event.{Event}
use Rattle.rules.specs.declared.Operand.{Operand}
use Rattle.rules.specs.declared.Refused.{Refused}
use Rattle.rules.specs.Events.{EventKind, unknown_kind, kind_of, ranges}
use Rattle.rules.specs.Operands.{in_range}
use Rattle.rules.specs.Words.{Numbered, those, each, place, under}
use Rattle.rules.proofs.Lists.{◌&◌, end, Others, three, under-number, under-other}
use Rattle.event_operands.specs.declared.Step.{Step}
use Rattle.event_operands.specs.Steps.{number_of_step, steps, step_named}
use Rattle.event_operands.specs.Address.{◌is_a◌, operands_of, the}

-- ---- steps by their numbers

-- no step has another number
pub no_step : (kind : ℕ) → Others (Unit {0}) kind steps → Err Refused.OutOfRange ≡ step_named kind
no_step kind o = sym (under-other (Err Refused.OutOfRange) kind (Unit {0}) steps o)

-- a named step has the number
abbrev numbered : (kind : ℕ) → Result Step Refused → Type 0
numbered kind (Ok s) = kind ≡ number_of_step s
numbered kind (Err why) = Unit {0}

pub number-named : (kind : ℕ) (s : Step) → step_named kind ≡ Ok s → kind ≡ number_of_step s
number-named kind s named =
    rw named at (under-number (Err Refused.OutOfRange) kind (numbered kind) steps (
    (λ h. h) & (λ h. h) & (λ h. h) & (λ h. h) & (λ h. h) & (λ h. h) & (λ h. h) & (λ h. h)
    & (λ h. h) & (λ h. h) & (λ h. h) & (λ h. h) & (λ h. h) & (λ h. h) & (λ h. h) & (λ h. h)
    & end) tt)

-- what f makes of what stands under a number stands under it in the table that f makes
pub under-each : {A B : Type 0} (f : A → B) (d : A) (l : List (Numbered A)) (n : ℕ)
    → f (under d l n) ≡ under (f d) (each (λ (x : Numbered A). record { number = x.number; entry = f x.entry }) l) n
unfolding each place
under-each f d [] n = refl
under-each {A = A} {B = B} f d (x ∷ xs) n = go (eqb x.number n) (under-each f d xs n)
  where
    rest : List (Numbered B)
    rest = each (λ (x : Numbered A). record { number = x.number; entry = f x.entry }) xs

    go : (b : Bool) → f (under d xs n) ≡ under (f d) rest n
        → f (get_or (x ∷ xs) (cond b 0 (suc (place (λ (y : Numbered A). eqb y.number n) xs))) (record { number = n; entry = d })).entry
        ≡ (get_or (record { number = x.number; entry = f x.entry } ∷ rest) (cond b 0 (suc (place (λ (y : Numbered B). eqb y.number n) rest))) (record { number = n; entry = f d })).entry
    go true e = refl
    go false e = e

-- the kind under a number is the named step's
abbrev pub kind_by : Result Step Refused → EventKind
kind_by (Ok s) = kind_of (number_of_step s)
kind_by (Err why) = unknown_kind

pub kind_named : (kind : ℕ) → kind_by (step_named kind) ≡ kind_of kind
unfolding each kind_of place
kind_named kind = under-each kind_by (Err Refused.OutOfRange) steps kind

-- no number is in the range of a kind that names no step
pub unknown-outside : (k : Creation) (e : Event) (why : Refused) → step_named e.kind ≡ Err why → ranges k e ≡ false
unfolding ranges
unknown-outside k e why named = rw (sym (rw named at (kind_named e.kind))) refl

-- ---- the operand of a sort

-- a sort is itself alone
pub same-sort : (o sort : Operand) → o is_a sort ≡ true → o ≡ sort
same-sort o sort h = grind arith

-- what holds of 0, and of every number in the range of a sort, holds of an event's operand of that sort
pub of_sort : (P : ℕ → Type 0) (k : Creation) (e : Event) (sort : Operand) → ranges k e ≡ true → P 0 → ((n : ℕ) → in_range k sort n ≡ true → P n) → P (the sort e)
unfolding ranges operands_of
of_sort P k e sort inside none some =
    let o = (kind_of e.kind).operands in
    let r = three (in_range k o.0 e.a) (in_range k o.1 e.b) (in_range k o.2 e.c) inside in
    first o.0 e.a ((o.1, e.b) ∷ (o.2, e.c) ∷ []) r.0 (first o.1 e.b ((o.2, e.c) ∷ []) r.1 (first o.2 e.c [] r.2 none))
  where
    first : (o : Operand) (n : ℕ) (rest : List (Operand × ℕ)) → in_range k o n ≡ true
        → P (option_map_or (λ x. x.1) (find (λ x. x.0 is_a sort) rest) 0) → P (option_map_or (λ x. x.1) (find (λ x. x.0 is_a sort) ((o, n) ∷ rest)) 0)
    first o n rest h other = go (o is_a sort) refl
      where
        go : (b : Bool) → o is_a sort ≡ b → P (option_map_or (λ x. x.1) (cond b (Some (o, n)) (find (λ x. x.0 is_a sort) rest)) 0)
        go true same = some n (rw (same-sort o sort same) at h)
        go false _ = other

-- ---- the operands of an event, one after the other

pub all-in-range : (k : Creation) (e : Event) → list_all (λ (x : Operand × ℕ). in_range k x.0 x.1) (operands_of e) ≡ ranges k e
unfolding ranges operands_of
all-in-range k e =
    let o = (kind_of e.kind).operands in
    rw and-true (sym (and_assoc (in_range k o.0 e.a) (in_range k o.1 e.b) (in_range k o.2 e.c)))

those_are : {A : Type 0} (p : A → Bool) (l : List A) → filter p l ≡ those p l
unfolding those
those_are p [] = refl
those_are {A = A} p (x ∷ xs) = ap (λ (r : List A). cond (p x) (x ∷ r) r) (those_are p xs)

-- .. those that are p, as the library counts them
pub count-those : {A : Type 0} (p : A → Bool) (l : List A) → count_by p l ≡ length (those p l)
count-those p l = sym (ap length (sym (those_are p l)) ∙ length-filter p l)
