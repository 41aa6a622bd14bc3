-- Settlement as the code goes about it, one copy or one entry after the other. proofs/Laws.antt proves that this is the rules'
use Rattle.std.specs.Prelude.{ℕ, Bool, ◌&&◌, ◌||◌, not, List, map, if◌then◌else◌}
use Rattle.std.specs.List.{list_any, list_all, filter, fold, find}
use Rattle.std.specs.Option.{unwrap_or}
use Rattle.rules.specs.declared.Timestamp.{Timestamp}
use Rattle.rules.specs.declared.Entry.{Entry}
use Rattle.rules.specs.declared.Record.{Record}
use Rattle.rules.specs.declared.Copy.{Copy}
use Rattle.rules.specs.Built.{copy_with}
use Rattle.rules.specs.Chunks.{emptied}
use Rattle.rules.specs.Kinds.{is_write, value_of}
use Rattle.rules.specs.Settlement.{in_set, last_read, last_write, not_lost, waiting, write_with, aborted_with}
use Rattle.rules.specs.Timestamps.{never, later, ◌is◌, ◌above◌}
use Rattle.rules.specs.Zero.{zero_entry, no_copy}

-- what one copy says of t
abbrev pub agrees : Timestamp → Copy → Bool
agrees t c = not (in_set c) || (if c.lost then t above last_read c else list_any (write_with t) (waiting c) && not (list_any (aborted_with t) (waiting c)))

abbrev pub all_agree : List Copy → Timestamp → Bool
all_agree cs t = list_all (agrees t) cs

abbrev pub is_committed : List Copy → (w t : Timestamp) → Bool
is_committed cs w t = t above w && all_agree cs t

-- the entry's timestamp where it is a write that is committed and later than m, else m
abbrev pub with_entry : List Copy → (m : Timestamp) → Entry → Timestamp
with_entry cs m e = if is_write e.kind && is_committed cs m e.timestamp then e.timestamp else m

-- the latest committed of the entries, else w
abbrev pub latest_of : List Copy → (w : Timestamp) → List Entry → Timestamp
latest_of cs w entries = fold later w (map (λ e. e.timestamp) (filter (λ e. is_write e.kind && is_committed cs w e.timestamp) entries))

abbrev pub value_with : Timestamp → List Entry → ℕ
value_with t entries = value_of (unwrap_or (find (write_with t) entries) zero_entry).kind

abbrev pub candidates : List Copy → List Entry
candidates cs = waiting (unwrap_or (find not_lost cs) no_copy)

abbrev pub greatest_write : List Copy → Timestamp
greatest_write cs = fold later never (map last_write (filter in_set cs))

abbrev pub greatest_read : List Copy → Timestamp
greatest_read cs = fold later never (map last_read (filter in_set cs))

abbrev pub value_beside : Timestamp → List Copy → ℕ
value_beside w cs = (unwrap_or (find (λ c. in_set c && last_write c is w) cs) no_copy).held.value

-- one copy after settlement
abbrev pub settled_copy : Record → Copy → Copy
settled_copy settled c = copy_with c.member c.lost (if in_set c then settled else emptied c.held)
