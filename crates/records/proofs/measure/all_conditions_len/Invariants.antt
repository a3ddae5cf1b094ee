use Rattle.std.proofs.Common.{◌≡◌, ◌≤◌, ◌+◌, ◌*◌, false, length, drop}
use Rattle.std.specs.List.{flat_map}
use Rattle.records.specs.Format.{condition_bytes}
use Rattle.records.proofs.measure.all_conditions_len.Given as goal

-- the bytes so far and those from here on are all
abbrev pub invariant-loop-condition : goal.invariant-loop-condition
invariant-loop-condition l = record {
  len : length (flat_map (condition_bytes false) l.conditions) ≡ l.len + length (flat_map (condition_bytes false) (drop l.condition-index l.conditions));
  short : l.len ≤ 784 * l.condition-index;
}
