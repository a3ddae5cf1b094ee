use Rattle.std.proofs.Common.{◌-◌, length}
use Rattle.sides.proofs.Words.{behind_in, exactly}
use Rattle.sides.proofs.joining.advance_to.Given as goal

abbrev pub ghosts-advance : goal.ghosts-advance
ghosts-advance g a = record { added = exactly (a.place - length a.log.now.seen) (behind_in a.log.now.seen a.node.now) }
