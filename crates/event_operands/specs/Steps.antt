-- The sixteen events by name: each one's number, and which one a number names
use Rattle.std.specs.Prelude.{ℕ, List, [], Result, Ok, Err}
use Rattle.rules.specs.declared.Refused.{Refused}
use Rattle.rules.specs.Words.{Numbered, ◌⇒◌⨾◌, under}
use Rattle.event_operands.specs.declared.Step.{Step}

abbrev pub number_of_step : Step → ℕ
number_of_step Step.Read = 1
number_of_step Step.Write = 2
number_of_step Step.Start = 3
number_of_step Step.Deliver = 4
number_of_step Step.Drop = 5
number_of_step Step.Finish = 6
number_of_step Step.Timeout = 7
number_of_step Step.Refresh = 8
number_of_step Step.Run = 9
number_of_step Step.Stop = 10
number_of_step Step.Fail = 11
number_of_step Step.Recover = 12
number_of_step Step.TakeLease = 13
number_of_step Step.GiveLease = 14
number_of_step Step.EpochChange = 15
number_of_step Step.Overdue = 16

abbrev pub steps : List (Numbered (Result Step Refused))
steps =
    1 ⇒ Ok Step.Read ⨾
    2 ⇒ Ok Step.Write ⨾
    3 ⇒ Ok Step.Start ⨾
    4 ⇒ Ok Step.Deliver ⨾
    5 ⇒ Ok Step.Drop ⨾
    6 ⇒ Ok Step.Finish ⨾
    7 ⇒ Ok Step.Timeout ⨾
    8 ⇒ Ok Step.Refresh ⨾
    9 ⇒ Ok Step.Run ⨾
    10 ⇒ Ok Step.Stop ⨾
    11 ⇒ Ok Step.Fail ⨾
    12 ⇒ Ok Step.Recover ⨾
    13 ⇒ Ok Step.TakeLease ⨾
    14 ⇒ Ok Step.GiveLease ⨾
    15 ⇒ Ok Step.EpochChange ⨾
    16 ⇒ Ok Step.Overdue ⨾
    []

-- no other number names one: "unknown kind"
abbrev pub step_named : (kind : ℕ) → Result Step Refused
step_named = under (Err Refused.OutOfRange) steps
