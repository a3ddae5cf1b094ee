-- The events of the changes so far stand after those that were there.
use Rattle.std.proofs.Common.{◌≡◌, ◌++◌, take, filter}
use Rattle.tuples.specs.Versions.{placed}
use Rattle.tuples.specs.Watching.{is_among}
use Rattle.answer_flow.proofs.events.push_events.Given as goal

abbrev pub invariant-loop-change : goal.invariant-loop-change
invariant-loop-change l = l.events.items ≡ l.fn.events.items ++ placed l.place (filter (is_among l.namespaces) (take l.change-index l.changes))
