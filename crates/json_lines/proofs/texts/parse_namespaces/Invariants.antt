use Rattle.std.proofs.Common.{◌≡◌, ◌≤◌, map, take, length, vec_len, vec_capacity}
use Rattle.std.specs.List.{All}
use Rattle.tuples.specs.Names.{IsName}
use Rattle.json_lines.proofs.texts.parse_namespaces.Given as goal

abbrev pub invariant-loop-text : goal.invariant-loop-text
invariant-loop-text l = (map (λ t. t.now) (take l.text-index l.texts) ≡ l.names.items) × All IsName l.names.items × (vec_len l.names ≡ l.text-index) × (length l.texts ≤ vec_capacity l.names)
