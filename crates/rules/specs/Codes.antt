-- Document 01, "Codes": refusals as ordered rows, and what an outcome is in numbers
use Rattle.std.specs.Prelude.{ℕ, Bool, List, [], ◌∷◌, eqb, if◌then◌else◌, Result, Ok, Err}
use Rattle.rules.specs.Types.{Refused, Outcome, Reply}

-- ---- refusals: an ordered list of situations, each with its code

pub record Row : Type 0 where
  pub holds : Bool
  pub code : ℕ

infixr 5 ◌gives◌⨾◌
abbrev pub ◌gives◌⨾◌ : Bool → ℕ → List Row → List Row
situation gives k ⨾ rest = record { holds = situation; code = k } ∷ rest

abbrev pub granted : List Row
granted = []

-- the first situation that holds gives the code; 0, "done", where none does
unfoldable pub code_of : List Row → ℕ
code_of [] = 0
code_of (r ∷ rs) = if r.holds then r.code else code_of rs

-- what a refusal leaves as it was, and a granted event changes: "same", or its effect
abbrev pub unless_refused : {A : Type 0} → List Row → (same effect : A) → A
unless_refused rows same effect = if eqb (code_of rows) 0 then effect else same

-- ---- why an event is refused, each with its code

abbrev pub number_of : Refused → ℕ
number_of Refused.OutOfRange = 1
number_of Refused.NotInState = 2
number_of Refused.ClockNotAbove = 3
number_of Refused.QueueFull = 4
number_of Refused.NoRoom = 5
number_of Refused.AllLost = 6
number_of Refused.LastEpoch = 7
number_of Refused.NotFormed = 8

abbrev pub refused_by : (code : ℕ) → Refused
refused_by code =
    if eqb code 1 then Refused.OutOfRange else
    if eqb code 2 then Refused.NotInState else
    if eqb code 3 then Refused.ClockNotAbove else
    if eqb code 4 then Refused.QueueFull else
    if eqb code 5 then Refused.NoRoom else
    if eqb code 6 then Refused.AllLost else
    if eqb code 7 then Refused.LastEpoch else
    Refused.NotFormed

-- the effect, or why it is refused: by the first situation that holds
abbrev pub ruled : {A : Type 0} → List Row → (effect : A) → Result A Refused
ruled rows effect = if eqb (code_of rows) 0 then Ok effect else Err (refused_by (code_of rows))

-- "0 done", with what has come of it; or a refusal's code, and none
abbrev pub reply_by : Result Outcome Refused → Reply
reply_by (Ok outcome) = record { code = 0; outcome = outcome }
reply_by (Err why) = record { code = number_of why; outcome = Outcome.None }

-- ---- outcomes: "none 0, read done 1, write done 2, read failed 3, write failed 4;
-- then host, block, value (all 0 for none; value 0 unless read done)"

pub record Numbers : Type 0 where
  pub kind : ℕ
  pub host : ℕ
  pub block : ℕ
  pub value : ℕ

abbrev pub numbers_of : Outcome → Numbers
numbers_of Outcome.None = record { kind = 0; host = 0; block = 0; value = 0 }
numbers_of (Outcome.ReadDone h b v) = record { kind = 1; host = h; block = b; value = v }
numbers_of (Outcome.WriteDone h b) = record { kind = 2; host = h; block = b; value = 0 }
numbers_of (Outcome.ReadFailed h b) = record { kind = 3; host = h; block = b; value = 0 }
numbers_of (Outcome.WriteFailed h b) = record { kind = 4; host = h; block = b; value = 0 }
