use Rattle.std.proofs.Common.{◌≡◌, ◌≤◌, ◌+◌, ◌*◌, length}
use Rattle.std.specs.List.{flat_map}
use Rattle.records.specs.Format.{change_bytes}
use Rattle.records.proofs.measure.changes_len.Given as goal

-- the bytes so far and those of what is to come are all
abbrev pub invariant-loop-change : goal.invariant-loop-change
invariant-loop-change l = record {
  len : l.len + length (flat_map change_bytes l.change-iterator) ≡ length (flat_map change_bytes l.fn.changes);
  short : l.len + 776 * length l.change-iterator ≤ 776 * length l.fn.changes;
}
