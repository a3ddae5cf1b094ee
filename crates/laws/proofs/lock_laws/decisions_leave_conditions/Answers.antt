use Rattle.laws.proofs.WriteConditions.{decisions_leave_conditions}
use Rattle.laws.proofs.lock_laws.decisions_leave_conditions.Goals as goal

pub returns : goal.returns
returns c = decisions_leave_conditions
