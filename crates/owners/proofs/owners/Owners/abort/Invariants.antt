use Rattle.std.specs.Prelude.{[]}
use Rattle.accord.specs.OwnedLists.{with_aborted}
use Rattle.owners.proofs.owners.Owners.abort.Given as goal

abbrev pub ghosts-step_alone : goal.ghosts-step_alone
ghosts-step_alone g a = record { part = with_aborted a.list.now.part g.W.Writes.write.id; begun = []; facts = [] }
