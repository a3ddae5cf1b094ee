use Rattle.std.proofs.Common.{◌≡◌, ◌≤◌, ◌+◌, ◌++◌, map, take, length, vec_len, vec_capacity}
use Rattle.std.specs.Vec.Iter.{into_iter_items}
use Rattle.tuples.specs.Changes.{conditioned}
use Rattle.json_lines.specs.Causes.{ArePlaced}
use Rattle.json_lines.specs.Lines.{written_condition}
use Rattle.json_lines.specs.Shapes.{condition_json}
use Rattle.json_lines.proofs.places.decode_conditions.Given as goal

abbrev pub invariant-loop-tuple : goal.invariant-loop-tuple
invariant-loop-tuple l = record {
  taken : conditioned l.conditions.items ++ into_iter_items l.tuple-iterator ≡ l.fn.tuples.items;
  made : map condition_json (take (vec_len l.conditions) l.shapes) ≡ map (written_condition l.store) l.conditions.items;
  placed : ArePlaced l.store (take (vec_len l.conditions) l.shapes);
  long : length l.conditions.items + length (into_iter_items l.tuple-iterator) ≡ length l.shapes;
  room : length l.shapes ≤ vec_capacity l.conditions;
}
