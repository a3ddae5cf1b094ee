use Rattle.std.proofs.Common.{◌++◌, ◌∷◌, [], false}
use Rattle.records.specs.Format.{batch_bytes}
use Rattle.journal.proofs.Joined.{batches-push}
use Rattle.journal.proofs.checkpoint.write_piece.Goals as goal

pub returns-in-Ok-clause-ok : goal.returns-in-Ok-clause-ok
returns-in-Ok-clause-ok g c = λ rs hon w. record {
  ahead = w.ahead ++ batch_bytes false c.args.piece.now ∷ [];
  is = c.in-Ok.ensures.ok w.ahead hon w.is;
  read = batches-push w.ahead (batch_bytes false c.args.piece.now) rs c.args.piece.now w.read c.write_ahead_to.ensures.read;
}
