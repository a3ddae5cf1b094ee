use Rattle.std.specs.Prelude.{[], ◌∷◌, ◌++◌}
use Rattle.accord.specs.OwnedLists.{decided_write, undecided, with_listed}
use Rattle.accord.specs.Owning.{decided_of}
use Rattle.owners.proofs.owners.Owners.decide.Given as goal

abbrev pub ghosts-step_with : goal.ghosts-step_with
ghosts-step_with g a = record {
  part = with_listed a.list.now.part g.X.Decides.write;
  begun = g.X.Decides.before ++ decided_of (undecided g.X.Decides.write) ∷ g.X.Decides.after;
  facts = decided_write a.list.now.part g.X.Decides.write ∷ [];
}
