use Rattle.versions.proofs.versions.Versions.asked_at.Given as goal

abbrev pub ghosts-asked : goal.ghosts-asked
ghosts-asked a = record { name = a.blank.name; parts = a.blank.parts }
