use Rattle.std.specs.Prelude.{[]}
use Rattle.accord.specs.OwnedLists.{found_list}
use Rattle.owners.proofs.owners.Owners.open.Given as goal

abbrev pub ghosts-step_alone : goal.ghosts-step_alone
ghosts-step_alone g a = record { part = found_list g.O.Opens.log g.O.Opens.epoch; begun = []; facts = [] }
