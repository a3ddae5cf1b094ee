use Rattle.std.proofs.Common.{◌++◌}
use Rattle.sides.proofs.Words.{behind_in, exactly}
use Rattle.sides.proofs.joining.begin_at.Given as goal

abbrev pub ghosts-advance_first : goal.ghosts-advance_first
ghosts-advance_first g a = record { added = exactly a.place (g.B.Room.first ++ behind_in g.B.Room.first a.node.now) }
