use Rattle.versions.proofs.versions.Versions.is_there.Given as goal

abbrev pub ghosts-is_there : goal.ghosts-is_there
ghosts-is_there a = record { name = a.blank.name; parts = a.blank.parts }
