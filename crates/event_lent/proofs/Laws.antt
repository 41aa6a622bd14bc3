-- The new messages of an event, sent one after the other to the network of a table
use Rattle.std.specs.Prelude.{Option}
use mathlib.Core.Path.{◌≡◌, refl}
use mathlib.Core.List.{List, [], ◌∷◌}
use Rattle.rules.specs.declared.Message.{Message}
use Rattle.rules.specs.declared.Table.{Table}
use Rattle.rules.specs.Network.{replied}
use Rattle.rules.specs.Tables.{with_places}
use Rattle.rules.specs.Words.{fold}
use Rattle.network_places.specs.Sending.{sent_all}

abbrev pub sending : Table → Option Message → Table
sending t m = with_places t (replied t.places m)

pub sending-all : (t : Table) (messages : List (Option Message)) → fold sending t messages ≡ with_places t (sent_all t.places messages)
unfolding fold
sending-all t [] = refl
sending-all t (m ∷ messages) = sending-all (sending t m) messages
