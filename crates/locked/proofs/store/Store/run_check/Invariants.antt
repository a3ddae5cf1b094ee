use Rattle.calls.specs.declared.progress.Progress.TheVariants.{Next}
use Rattle.locked.proofs.Words.{IsLater}
use Rattle.locked.proofs.CheckTurns.{CheckGoesOn}
use Rattle.locked.proofs.store.Store.run_check.Given as goal

abbrev pub invariant-loop : goal.invariant-loop
invariant-loop g l = record {
  runs : (goal.iterator-loop g).can_next l.iterator' × (goal.iterator-loop g).is_finite l.iterator';
  later : IsLater l.initial.caller.pass l.caller.pass;
  on : CheckGoesOn g.B.Room.rests g.B.Room.shards l.caller.pass l.told l.userset l.initial.flow.fresh l.initial.flow.user (Next l.flow);
}
