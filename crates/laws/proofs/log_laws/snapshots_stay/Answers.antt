use Rattle.laws.proofs.MachineMoves.{snapshots_stay}
use Rattle.laws.proofs.log_laws.snapshots_stay.Goals as goal

pub returns : goal.returns
returns c = snapshots_stay
