use Rattle.std.proofs.Common.{rules}
use Rattle.calls.proofs.asking.refuse_for_coordinator.Goals as goal

pub returns-in-Decide : goal.returns-in-Decide
returns-in-Decide c = search rules
