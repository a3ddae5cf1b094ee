use Rattle.std.proofs.Common.{◌+◌, ◌∙◌, rules, arith}
use Rattle.serving.proofs.gathering.gather_all.Goals as goal

-- The thread that is joined stood first among the rest.
pub loop-thread-preserved : goal.loop-thread-preserved
loop-thread-preserved g c =
    let was = c.loop-thread.invariant in
    let step = c.in-Some.ensures.steps in
    let kept = c.join.ensures in
    let both = c.gather.ensures.passes in
    record {
      queue = search rules;
      passes = omega (arith, both.0, kept.1, step.1, was.passes);
      end = both.1 ∙ was.end;
      threads = λ k d below. let h = was.threads (k + 1) d in grind rules;
    }
