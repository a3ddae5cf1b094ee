use Rattle.std.proofs.Common.{length}
use Rattle.calls.specs.declared.progress.Progress.TheVariants.{Next}
use Rattle.locked.proofs.Words.{IsLater}
use Rattle.locked.proofs.WatchTurns.{WatchGoesOn}
use Rattle.locked.proofs.store.Store.run_watch.Given as goal

abbrev pub invariant-loop : goal.invariant-loop
invariant-loop g l = record {
  runs : (goal.iterator-loop g).can_next l.iterator' × (goal.iterator-loop g).is_finite l.iterator';
  later : IsLater l.initial.caller.pass l.caller.pass;
  on : WatchGoesOn g.B.Room.rests (length l.initial.caller.pass.seen) l.caller.pass l.told l.initial.flow.cursor l.initial.flow.limit l.initial.flow.namespaces (Next l.flow);
}
