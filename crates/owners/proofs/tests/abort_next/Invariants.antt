use Rattle.owners.specs.Examples.{next_write}
use Rattle.owners.proofs.tests.abort_next.Given as goal

abbrev pub ghosts-begin : goal.ghosts-begin
ghosts-begin a = record { write = next_write }

abbrev pub ghosts-abort : goal.ghosts-abort
ghosts-abort a = record { write = next_write }
