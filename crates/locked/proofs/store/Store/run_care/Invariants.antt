use Rattle.care_flow.specs.Cares.{IsThere}
use Rattle.locked.proofs.Words.{IsCareOf, IsLater}
use Rattle.locked.proofs.store.Store.run_care.Given as goal

abbrev pub invariant-loop : goal.invariant-loop
invariant-loop g l = record {
  runs : (goal.iterator-loop g).can_next l.iterator' × (goal.iterator-loop g).is_finite l.iterator';
  of : IsThere g.B.Room.shards l.flow;
  later : IsLater l.initial.caller.pass l.caller.pass;
  held : g.B.Room.rests → IsCareOf l.caller.pass.seen l.caller.pass.horizon l.flow;
}
