-- The shard has dropped the write, and the flow goes on.
use Rattle.std.proofs.Common.{refl}
use Rattle.care_flow.proofs.resolving.dropped.Goals as goal

pub returns-in-Ok-clause-gives : goal.returns-in-Ok-clause-gives
returns-in-Ok-clause-gives c = rw c.in-Ok.is (c.go_on.ensures.goes _ _ refl refl)
