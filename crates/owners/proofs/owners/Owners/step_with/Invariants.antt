use Rattle.std.specs.Prelude.{Some}
use Rattle.owners.proofs.owners.Owners.step_with.Given as goal

abbrev pub ghosts-change : goal.ghosts-change
ghosts-change g a = record { part = Some g.M.Moves.part; goods = Some g.M.Moves.begun; facts = g.M.Moves.facts }
