use Rattle.std.specs.Prelude.{[], ◌∷◌, ◌++◌}
use Rattle.accord.specs.OwnedLists.{undecided, with_open}
use Rattle.owners.proofs.owners.Owners.begin.Given as goal

abbrev pub ghosts-step_with : goal.ghosts-step_with
ghosts-step_with g a = record { part = with_open a.list.now.part g.W.Writes.write; begun = a.caller.now.begun ++ undecided g.W.Writes.write ∷ []; facts = [] }
