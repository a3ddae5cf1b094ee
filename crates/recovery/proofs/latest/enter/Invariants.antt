use Rattle.std.proofs.Common.{◌≡◌, take}
use Rattle.std.specs.BTreeMap.{get}
use Rattle.tuples.specs.declared.tuple.Tuple.{Tuple}
use Rattle.tuples.specs.Order.{tuple_cmp}
use Rattle.recovery.specs.Latest.{last_change}
use Rattle.recovery.proofs.latest.enter.Given as goal

abbrev pub invariant-loop-change : goal.invariant-loop-change
invariant-loop-change l = (t : Tuple) → get tuple_cmp l.latest t ≡ last_change l.place (take l.change-index l.changes) t (get tuple_cmp l.fn.latest t)
