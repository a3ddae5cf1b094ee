use Rattle.std.specs.Prelude.{[], ◌∷◌}
use Rattle.published.proofs.shared_tests.add_one.Given as goal

abbrev pub ghosts-advance_by_one : goal.ghosts-advance_by_one
ghosts-advance_by_one a = record { added = a.place ∷ [] }
