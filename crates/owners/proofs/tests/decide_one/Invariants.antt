use Rattle.std.specs.Prelude.{[]}
use Rattle.owners.specs.Examples.{first_write}
use Rattle.owners.proofs.tests.decide_one.Given as goal

abbrev pub ghosts-begin : goal.ghosts-begin
ghosts-begin a = record { write = first_write }

abbrev pub ghosts-decide : goal.ghosts-decide
ghosts-decide a = record { before = []; write = first_write; after = [] }
