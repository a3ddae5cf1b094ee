use Rattle.std.proofs.Common.{subst}
use Rattle.tuples.specs.Changes.{tuple_of}
use Rattle.tuples.specs.declared.change.Change.{Change}
use Rattle.tuples.specs.Texts.{IsTuple}
use Rattle.tuples.proofs.Named.{all_from_here}
use Rattle.tuples.proofs.write.keep_changes_grammar.Goals as goal

pub loop-change-preserved : goal.loop-change-preserved
loop-change-preserved c rest =
    let spelled = subst IsTuple c.tuple.ensures c.keeps_grammar.ensures in
    let here = subst (λ (x : Change). IsTuple (tuple_of x)) c.change-item.is spelled in
    c.loop-change.invariant (all_from_here IsTuple tuple_of c.args.changes.now c.loop-change.change-index c.change-item.result c.loop-change-test.true here rest)
