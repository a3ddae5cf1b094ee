use Rattle.std.proofs.Common.{All, drop}
use Rattle.tuples.specs.Changes.{conditioned}
use Rattle.tuples.specs.Texts.{IsTuple}
use Rattle.tuples.proofs.write.keep_conditions_grammar.Given as goal

-- all are in their grammar if those from here on are
abbrev pub invariant-loop-condition : goal.invariant-loop-condition
invariant-loop-condition l = All IsTuple (conditioned (drop l.condition-index l.conditions)) → All IsTuple (conditioned l.conditions)
