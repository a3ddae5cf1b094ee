use Rattle.calls.specs.declared.progress.Progress.TheVariants.{Next}
use Rattle.locked.proofs.Words.{IsLater}
use Rattle.locked.proofs.ReadTurns.{ReadGoesOn}
use Rattle.locked.proofs.store.Store.run_read.Given as goal

abbrev pub invariant-loop : goal.invariant-loop
invariant-loop g l = record {
  runs : (goal.iterator-loop g).can_next l.iterator' × (goal.iterator-loop g).is_finite l.iterator';
  later : IsLater l.initial.caller.pass l.caller.pass;
  on : ReadGoesOn g.B.Room.rests g.B.Room.shards l.caller.pass l.told l.initial.flow.fresh l.initial.flow.sets (Next l.flow);
}
