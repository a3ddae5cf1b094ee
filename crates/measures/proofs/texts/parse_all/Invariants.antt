use Rattle.std.proofs.Common.{◌≡◌, map, take}
use Rattle.tuples.specs.Texts.{tuple_text}
use Rattle.measures.proofs.texts.parse_all.Given as goal

-- the tuples have the texts so far
abbrev pub invariant-loop-text : goal.invariant-loop-text
invariant-loop-text l = map tuple_text l.tuples.items ≡ map (λ t. t.items) (take l.text-index l.texts)
