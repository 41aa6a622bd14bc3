use Rattle.std.proofs.Common.{refl}
use Rattle.rules.specs.Formed.{well_formed}
use Rattle.table_sound.proofs.sound_in.Goals as goal

pub returns : goal.returns
unfolding well_formed
returns c = rw (c.is_creation.ensures, c.hosts_formed.ensures, c.chunks_formed.ensures, c.records_formed.ensures, c.places_formed.ensures, c.from-n.ensures) refl
