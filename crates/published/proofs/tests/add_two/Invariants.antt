use Rattle.std.specs.Prelude.{[], ◌∷◌}
use Rattle.published.proofs.tests.add_two.Given as goal

abbrev pub ghosts-advance_by_two : goal.ghosts-advance_by_two
ghosts-advance_by_two a = record { added = a.place ∷ a.place ∷ [] }
