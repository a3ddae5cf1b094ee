use Rattle.std.proofs.Common.{arith}
use Rattle.published.proofs.Keeping.{splits}
use Rattle.published.proofs.words.Published.copy.Goals as goal

pub split_seat-requires : goal.split_seat-requires
split_seat-requires g c = (cc (c.requires, c.self.view_is), omega (arith, c.self.invariant), splits _ _)
