use Rattle.std.specs.Prelude.{[], ◌∷◌}
use Rattle.joint.proofs.tests.start.Given as goal

abbrev pub ghosts-start_with : goal.ghosts-start_with
ghosts-start_with a = record { parts = (0, 0) ∷ (1, 0) ∷ []; facts = [] }
