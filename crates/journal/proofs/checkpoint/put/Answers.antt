use Rattle.std.proofs.Common.{ap, arith, length}
use Rattle.journal.specs.Sources.{record_of}
use Rattle.journal.proofs.Short.{some_there}
use Rattle.journal.proofs.checkpoint.put.Goals as goal

pub write_piece-requires-clause-some : goal.write_piece-requires-clause-some
write_piece-requires-clause-some g c =
    let some = some_there c.args.piece.now (record_of c.args.next) c.requires.spelled c.in-Err.ensures.full in
    omega (arith, some, ap length c.in-Err.ensures.err.1)
