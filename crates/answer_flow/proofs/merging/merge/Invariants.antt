-- What was taken so far, and how much is left.
use Rattle.std.proofs.Common.{◌+◌, length}
use Rattle.answer_flow.proofs.MergedRows.{Merging}
use Rattle.answer_flow.proofs.merging.merge.Given as goal

abbrev pub invariant-loop-tuple : goal.invariant-loop-tuple
invariant-loop-tuple l = Merging l.fn.left.items l.fn.right.items l.left.items l.right.items l.merged.items

abbrev pub decreases-loop-tuple : goal.decreases-loop-tuple
decreases-loop-tuple l = length l.left.items + length l.right.items
