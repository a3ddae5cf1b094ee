use Rattle.std.specs.Prelude.{[], ◌∷◌}
use Rattle.records.specs.Identity.{coordinator_number}
use Rattle.accord.specs.OwnedLists.{no_list}
use Rattle.owners.proofs.owners.first_held.Given as goal

abbrev pub ghosts-first_state : goal.ghosts-first_state
ghosts-first_state a = record { parts = (coordinator_number, no_list) ∷ []; facts = [] }
