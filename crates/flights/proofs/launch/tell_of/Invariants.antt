use Rattle.std.specs.Prelude.{[], ◌∷◌}
use Rattle.flights.proofs.Words.{launch_of}
use Rattle.flights.proofs.launch.tell_of.Given as goal

abbrev pub ghosts-announce : goal.ghosts-announce
ghosts-announce g a = record { added = launch_of a.flight.now a.flying ∷ [] }
