use Rattle.std.proofs.Common.{sym, ◌∙◌}
use Rattle.journal.proofs.Summaries.{bodies_more}
use Rattle.journal.proofs.summary.summarised.Goals as goal

pub loop-body-preserved : goal.loop-body-preserved
loop-body-preserved c =
    let counts = rw c.deref.ensures.value at c.in_ok-summary.ensures.ok in
    sym (bodies_more c.loop-body.summary c.in_ok-summary.summary c.args.bodies.now c.loop-body.body-index c.body-item.result c.loop-body-test.true c.body-item.is counts)
    ∙ c.loop-body.invariant
