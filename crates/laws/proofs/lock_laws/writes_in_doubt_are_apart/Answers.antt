use Rattle.laws.proofs.Locks.{doubts_apart}
use Rattle.laws.proofs.lock_laws.writes_in_doubt_are_apart.Goals as goal

pub returns : goal.returns
returns c = doubts_apart
