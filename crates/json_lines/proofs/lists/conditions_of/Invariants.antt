use Rattle.std.proofs.Common.{◌≡◌, ◌≤◌, map, take, length, vec_len, vec_capacity}
use Rattle.serde_json.specs.View.{view}
use Rattle.json_lines.specs.Shapes.{condition_json}
use Rattle.json_lines.proofs.lists.conditions_of.Given as goal

abbrev pub invariant-loop-item : goal.invariant-loop-item
invariant-loop-item l = (map view (take l.item-index l.items) ≡ map condition_json l.conditions.items) × (vec_len l.conditions ≡ l.item-index) × (length l.items ≤ vec_capacity l.conditions)
