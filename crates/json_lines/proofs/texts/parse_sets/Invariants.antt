use Rattle.std.proofs.Common.{◌≡◌, ◌≤◌, map, take, length, vec_len, vec_capacity}
use Rattle.json_lines.specs.Causes.{AreSets}
use Rattle.json_lines.proofs.texts.parse_sets.Given as goal

abbrev pub invariant-loop-text : goal.invariant-loop-text
invariant-loop-text l = AreSets (map (λ t. t.now) (take l.text-index l.texts)) l.sets.items × (vec_len l.sets ≡ l.text-index) × (length l.texts ≤ vec_capacity l.sets)
