use Rattle.std.proofs.Common.{◌≡◌, ◌≤◌, map, take, length, vec_len, vec_capacity}
use Rattle.serde_json.specs.View.{view}
use Rattle.json_lines.specs.Shapes.{change_json}
use Rattle.json_lines.proofs.lists.changes_of.Given as goal

abbrev pub invariant-loop-item : goal.invariant-loop-item
invariant-loop-item l = (map view (take l.item-index l.items) ≡ map change_json l.changes.items) × (vec_len l.changes ≡ l.item-index) × (length l.items ≤ vec_capacity l.changes)
