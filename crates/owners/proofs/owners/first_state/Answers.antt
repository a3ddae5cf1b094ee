use Rattle.owners.proofs.Holding.{starts}
use Rattle.owners.proofs.owners.first_state.Goals as goal

pub new-requires : goal.new-requires
new-requires g c = record { starts = rw (c.requires.0, c.requires.1) starts }
