use Rattle.std.proofs.Common.{length, replicate}
use Rattle.tuples.proofs.Worded.{zeros, zeros_behind}
use Rattle.tuples.proofs.name.short.Goals as goal

pub returns-clause-sound : goal.returns-clause-sound
returns-clause-sound c =
    let text = c.args.text.now in
    (c.requires, rw c.copy_from_slice.ensures.after (zeros_behind text (replicate 30 0) (length text) (zeros 30)))
