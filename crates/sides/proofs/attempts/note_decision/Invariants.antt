use Rattle.sides.specs.CoordinatorSides.{tried_by, write_of}
use Rattle.sides.proofs.attempts.note_decision.Given as goal

abbrev pub ghosts-announce : goal.ghosts-announce
ghosts-announce a = record { added = tried_by (write_of a.call.now.value) a.reply.now }
