use Rattle.std.proofs.Common.{◌≡◌, Bool, drop}
use Rattle.std.specs.BTreeMap.{get}
use Rattle.std.specs.List.{list_all}
use Rattle.tuples.specs.declared.change.Condition.{Condition}
use Rattle.tuples.specs.Order.{tuple_cmp}
use Rattle.recovery.specs.Latest.{holds_after}
use Rattle.recovery.proofs.latest.all_hold.Given as goal

-- all hold if all do from here on
abbrev pub invariant-loop-condition : goal.invariant-loop-condition
invariant-loop-condition l =
    let hold : Condition → Bool = λ c. holds_after l.are_all c.want (get tuple_cmp l.latest c.tuple) in
    list_all hold l.conditions ≡ list_all hold (drop l.condition-index l.conditions)
