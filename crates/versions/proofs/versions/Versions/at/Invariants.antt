use Rattle.versions.proofs.versions.Versions.at.Given as goal

abbrev pub ghosts-kept : goal.ghosts-kept
ghosts-kept a = record { name = a.blank.name; parts = a.blank.parts }
