use Rattle.laws.proofs.WriteConditions.{conditions_hold_by_parts}
use Rattle.laws.proofs.lock_laws.conditions_hold_by_parts.Goals as goal

pub returns : goal.returns
returns c = conditions_hold_by_parts
