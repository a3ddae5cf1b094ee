use Rattle.laws.proofs.MachineMoves.{events_stay}
use Rattle.laws.proofs.log_laws.events_stay.Goals as goal

pub returns : goal.returns
returns c = events_stay
