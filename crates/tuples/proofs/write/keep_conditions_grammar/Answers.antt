use Rattle.std.proofs.Common.{subst}
use Rattle.tuples.specs.declared.change.Condition.{Condition}
use Rattle.tuples.specs.Texts.{IsTuple}
use Rattle.tuples.proofs.Named.{all_from_here}
use Rattle.tuples.proofs.write.keep_conditions_grammar.Goals as goal

pub loop-condition-preserved : goal.loop-condition-preserved
loop-condition-preserved c rest =
    let spelled = c.keeps_grammar.ensures in
    let here = subst (λ (x : Condition). IsTuple (x.tuple)) c.condition-item.is spelled in
    c.loop-condition.invariant (all_from_here IsTuple (λ (x : Condition). x.tuple) c.args.conditions.now c.loop-condition.condition-index c.condition-item.result c.loop-condition-test.true here rest)
