use Rattle.std.proofs.Common.{◌≡◌, ◌≤◌, map, take, length, vec_len, vec_capacity}
use Rattle.tuples.specs.Changes.{changed}
use Rattle.json_lines.specs.Causes.{AreTuples, changed_text}
use Rattle.json_lines.specs.Lines.{written_change}
use Rattle.json_lines.specs.Shapes.{change_json}
use Rattle.json_lines.proofs.texts.parse_changes.Given as goal

abbrev pub invariant-loop-shape : goal.invariant-loop-shape
invariant-loop-shape l = (map change_json (take l.shape-index l.shapes) ≡ map written_change l.changes.items) × AreTuples (map changed_text (take l.shape-index l.shapes)) (changed l.changes.items) × (vec_len l.changes ≡ l.shape-index) × (length l.shapes ≤ vec_capacity l.changes)
