use Rattle.std.proofs.Common.{take, false}
use Rattle.std.specs.List.{flat_map}
use Rattle.records.specs.Format.{condition_bytes}
use Rattle.records.proofs.Putting.{HasPut}
use Rattle.records.proofs.put_write.put_each_condition.Given as goal

-- those before this one were put
abbrev pub invariant-loop-condition : goal.invariant-loop-condition
invariant-loop-condition l = HasPut l.fn.out l.out (flat_map (condition_bytes false) (take l.condition-index l.conditions))
