use Rattle.std.specs.Prelude.{[], ◌∷◌}
use Rattle.published.proofs.tests.add.Given as goal

abbrev pub ghosts-advance_by_note : goal.ghosts-advance_by_note
ghosts-advance_by_note a = record { added = a.note.now ∷ [] }
