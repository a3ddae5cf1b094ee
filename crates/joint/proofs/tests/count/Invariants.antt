use Rattle.std.specs.Prelude.{[], ◌∷◌, Some, None}
use Rattle.joint.proofs.tests.count.Given as goal

abbrev pub ghosts-count_by : goal.ghosts-count_by
ghosts-count_by a = record { part = Some a.to; goods = None; facts = a.to ∷ [] }
