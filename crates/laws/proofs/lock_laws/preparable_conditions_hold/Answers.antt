use Rattle.laws.proofs.PreparableConditions.{preparable_conditions_hold}
use Rattle.laws.proofs.lock_laws.preparable_conditions_hold.Goals as goal

pub returns : goal.returns
returns c = preparable_conditions_hold
