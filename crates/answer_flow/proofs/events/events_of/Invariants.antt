-- The events of the writes so far, and the place of the last of them.
use Rattle.std.proofs.Common.{◌≡◌, ◌+◌, take}
use Rattle.tuples.specs.Watching.{events_from}
use Rattle.answer_flow.proofs.events.events_of.Given as goal

abbrev pub invariant-loop-write : goal.invariant-loop-write
invariant-loop-write l = record {
  place : l.place ≡ l.batch.from + l.write-index;
  events : l.events.items ≡ events_from (l.batch.from + 1) l.namespaces (take l.write-index l.batch.writes);
}
