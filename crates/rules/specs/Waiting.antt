-- The waiting list of a block in a chunk
use Rattle.std.specs.Prelude.{ℕ, Bool, List, [], ◌∷◌, get_or, set, take, drop, length, if◌then◌else◌}
use Rattle.rules.specs.Types.{Timestamp, Kind, Entry, Waiting}
use Rattle.rules.specs.Built.{entry_with}
use Rattle.rules.specs.Limits.{waiting_limit}
use Rattle.rules.specs.Timestamps.{◌is◌, ◌below◌}
use Rattle.rules.specs.Words.{place, filled}
use Rattle.rules.specs.Zero.{zero_entry}

-- ---- the list: its entries in waiting order, and the list that has given entries

abbrev pub in_order : Waiting → List Entry
in_order w = take w.count w.entries

unfoldable pub holding : List Entry → Waiting
holding l = record { count = length l; entries = filled waiting_limit zero_entry l }

-- "it waits, after its equals": before the first entry with a greater timestamp
unfoldable pub insert : Entry → List Entry → List Entry
insert e [] = e ∷ []
insert e (x ∷ xs) = if e.timestamp below x.timestamp then e ∷ x ∷ xs else x ∷ insert e xs

unfoldable pub inserted : Waiting → Entry → Waiting
inserted w e = holding (insert e (in_order w))

-- the head; zero where there is none
abbrev pub head : Waiting → Entry
head w = get_or (in_order w) 0 zero_entry

-- "The head is removed"
unfoldable pub head_removed : Waiting → Waiting
head_removed w = holding (drop 1 (in_order w))

-- "the first entry in waiting order with that timestamp": its index, or the count when absent
unfoldable pub first_with : Timestamp → List Entry → ℕ
first_with t l = place (λ e. e.timestamp is t) l

-- "if it is an undecided write, which becomes committed or aborted"
abbrev pub decided_kind : (commit : Bool) → Kind → Kind
decided_kind commit Kind.Read = Kind.Read
decided_kind commit (Kind.Undecided v) = if commit then Kind.Committed v else Kind.Aborted v
decided_kind commit (Kind.Committed v) = Kind.Committed v
decided_kind commit (Kind.Aborted v) = Kind.Aborted v

abbrev pub decided : (commit : Bool) → Entry → Entry
decided commit e = entry_with e.timestamp e.sender e.epoch (decided_kind commit e.kind)

-- "act on the first entry in waiting order with that timestamp"
unfoldable pub mark : (commit : Bool) → Timestamp → List Entry → List Entry
mark commit t l = set l (first_with t l) (decided commit (get_or l (first_with t l) zero_entry))

unfoldable pub marked : (commit : Bool) → Timestamp → Waiting → Waiting
marked commit t w = holding (mark commit t (in_order w))
