use Rattle.laws.proofs.MachineMoves.{kept_stay}
use Rattle.laws.proofs.log_laws.kept_writes_stay.Goals as goal

pub returns : goal.returns
returns c = kept_stay
