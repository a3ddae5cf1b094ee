use Rattle.laws.proofs.CollectStep.{collected_again}
use Rattle.laws.proofs.log_laws.later_horizons_collect.Goals as goal

pub returns : goal.returns
returns c = collected_again
