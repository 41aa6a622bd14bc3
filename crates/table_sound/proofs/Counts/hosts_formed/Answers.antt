use Rattle.std.proofs.Common.{arith, rules, get_or}
use Rattle.rules.specs.Formed.{host_at}
use Rattle.rules.specs.Zero.{no_host}
use Rattle.table_sound.specs.Parts.{counted}
use Rattle.table_sound.proofs.Counts.hosts_formed.Goals as goal

pub returns : goal.returns
returns c =
    c.every_place.ensures (λ i. host_at (counted c.args.self) i (get_or c.args.hosts.now i no_host)) 8 (omega arith) (λ i h ok is said. rw (← is no_host) (search rules))
