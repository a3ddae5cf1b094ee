use Rattle.std.specs.Prelude.{[]}
use Rattle.accord.specs.OwnedLists.{restarted}
use Rattle.owners.proofs.owners.Owners.restart.Given as goal

abbrev pub ghosts-step_alone : goal.ghosts-step_alone
ghosts-step_alone g a = record { part = restarted a.list.now.part g.R.Restarts.count g.R.Restarts.epoch; begun = []; facts = [] }
