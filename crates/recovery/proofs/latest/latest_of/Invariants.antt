use Rattle.std.proofs.Common.{◌≡◌, ◌+◌, ◌-◌, None, drop}
use Rattle.std.specs.BTreeMap.{get}
use Rattle.tuples.specs.declared.tuple.Tuple.{Tuple}
use Rattle.tuples.specs.Order.{tuple_cmp}
use Rattle.recovery.specs.Latest.{latest_from}
use Rattle.recovery.proofs.latest.latest_of.Given as goal

-- what is left of the log makes of the index what the whole log makes of none
abbrev pub invariant-loop-place : goal.invariant-loop-place
invariant-loop-place l = (t : Tuple) → latest_from (l.ledger.base + 1) l.ledger.log t None ≡ latest_from (l.place + 1) (drop (l.place - l.ledger.base) l.ledger.log) t (get tuple_cmp l.latest t)
