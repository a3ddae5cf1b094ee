use Rattle.std.proofs.Common.{◌≡◌, ◌≤◌, ◌+◌, ◌*◌, length, drop}
use Rattle.std.specs.List.{flat_map}
use Rattle.records.specs.Format.{change_bytes}
use Rattle.records.proofs.measure.all_changes_len.Given as goal

-- the bytes so far and those from here on are all
abbrev pub invariant-loop-change : goal.invariant-loop-change
invariant-loop-change l = record {
  len : length (flat_map change_bytes l.changes) ≡ l.len + length (flat_map change_bytes (drop l.change-index l.changes));
  short : l.len ≤ 776 * l.change-index;
}
