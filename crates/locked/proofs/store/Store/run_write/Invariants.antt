use Rattle.std.proofs.Common.{◌≡◌, ◌≤◌, ℕ, length}
use Rattle.commit_flow.specs.Flows.{seen_of}
use Rattle.locked.proofs.Words.{IsKnownWriteOf, IsLater, RefusesAsTold, WriteValue}
use Rattle.locked.proofs.store.Store.run_write.Given as goal

abbrev pub invariant-loop : goal.invariant-loop
invariant-loop g l = record {
  runs : (goal.iterator-loop g).can_next l.iterator' × (goal.iterator-loop g).is_finite l.iterator';
  of : l.flow.shards ≡ g.B.Room.shards;
  later : IsLater l.initial.caller.pass l.caller.pass;
  held : g.B.Room.rests → (asked : WriteValue) (above : ℕ) → above ≤ length l.initial.caller.pass.seen → IsKnownWriteOf l.initial.caller.tried.seen asked above l.initial.caller.pass.seen (seen_of l.initial.flow) → IsKnownWriteOf l.caller.tried.seen asked above l.caller.pass.seen (seen_of l.flow);
  told : RefusesAsTold g.B.Room.shards l.initial.told (seen_of l.initial.flow) → RefusesAsTold g.B.Room.shards l.told (seen_of l.flow);
}
