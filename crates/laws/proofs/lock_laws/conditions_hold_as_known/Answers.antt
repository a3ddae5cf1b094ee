use Rattle.laws.proofs.WriteConditions.{conditions_hold_as_known}
use Rattle.laws.proofs.lock_laws.conditions_hold_as_known.Goals as goal

pub returns : goal.returns
returns c = conditions_hold_as_known
