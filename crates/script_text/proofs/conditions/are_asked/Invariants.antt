use Rattle.std.proofs.Common.{map, take}
use Rattle.std.specs.List.{All}
use Rattle.script_text.specs.Words.{HasConditionShape}
use Rattle.script_text.proofs.conditions.are_asked.Given as goal

abbrev pub invariant-loop-word : goal.invariant-loop-word
invariant-loop-word l = All HasConditionShape (map (λ w. w.now) (take l.word-index l.words))
