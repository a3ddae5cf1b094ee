-- One tuple more is taken; in the end none is left.
use Rattle.std.proofs.Common.{List, sym, subst}
use Rattle.tuples.specs.declared.tuple.Tuple.{Tuple}
use Rattle.decisions.specs.Merging.{IsMerged}
use Rattle.answer_flow.proofs.MergedRows.{Merging, ends, goes_on}
use Rattle.answer_flow.proofs.merging.merge.Goals as goal

pub loop-tuple-preserved : goal.loop-tuple-preserved
loop-tuple-preserved c =
    let takes = rw c.in-Some.is at c.take_last.ensures in
    let more = goes_on c.args.left.items c.args.right.items c.loop-tuple.left.items c.loop-tuple.right.items c.loop-tuple.merged.items c.in-Some.tuple c.take_last.new.left.items c.take_last.new.right.items c.loop-tuple.invariant takes in
    subst (λ (xs : List Tuple). Merging c.args.left.items c.args.right.items c.take_last.new.left.items c.take_last.new.right.items xs) (sym c.in_ok-push.ensures.items) more

pub returns : goal.returns
returns c = λ left right.
    let none = rw c.in_default.is at c.take_last.ensures in
    subst (λ (xs : List Tuple). IsMerged c.args.left.items c.args.right.items xs) (sym c.reverse.ensures.items)
    (ends c.args.left.items c.args.right.items c.loop-tuple.left.items c.loop-tuple.right.items c.loop-tuple.merged.items c.loop-tuple.invariant none.0 none.1 left right)
