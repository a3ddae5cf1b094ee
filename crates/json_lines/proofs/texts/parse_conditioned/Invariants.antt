use Rattle.std.proofs.Common.{◌≡◌, ◌≤◌, map, take, length, vec_len, vec_capacity}
use Rattle.json_lines.specs.Causes.{AreTuples, conditioned_text}
use Rattle.json_lines.proofs.texts.parse_conditioned.Given as goal

abbrev pub invariant-loop-condition : goal.invariant-loop-condition
invariant-loop-condition l = AreTuples (map conditioned_text (take l.condition-index l.conditions)) l.tuples.items × (vec_len l.tuples ≡ l.condition-index) × (length l.conditions ≤ vec_capacity l.tuples)
