use Rattle.std.proofs.Common.{◌≡◌, ◌≤◌, ◌+◌, ◌*◌, false, length}
use Rattle.std.specs.List.{flat_map}
use Rattle.records.specs.Format.{condition_bytes}
use Rattle.records.proofs.measure.conditions_len.Given as goal

-- the bytes so far and those of what is to come are all
abbrev pub invariant-loop-condition : goal.invariant-loop-condition
invariant-loop-condition l = record {
  len : l.len + length (flat_map (condition_bytes false) l.condition-iterator) ≡ length (flat_map (condition_bytes false) l.fn.conditions);
  short : l.len + 784 * length l.condition-iterator ≤ 784 * length l.fn.conditions;
}
