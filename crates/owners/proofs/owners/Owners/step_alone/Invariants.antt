use Rattle.std.specs.Prelude.{[], Some, None}
use Rattle.owners.proofs.owners.Owners.step_alone.Given as goal

abbrev pub ghosts-change : goal.ghosts-change
ghosts-change g a = record { part = Some g.M.Moves.part; goods = None; facts = [] }
