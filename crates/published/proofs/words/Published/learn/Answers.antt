use Rattle.std.proofs.Common.{arith}
use Rattle.published.proofs.Keeping.{joins, loads_place}
use Rattle.published.proofs.words.Published.learn.Goals as goal

pub join_seat-requires : goal.join_seat-requires
join_seat-requires g c = (cc (c.requires.0, c.pass.view_is, c.self.view_is), cc (c.requires.1, c.note.view_is, c.self.view_is), c.note.invariant.1, omega (arith, c.self.invariant), joins _ _ _ _ c.note.invariant.0)

pub load-requires : goal.load-requires
load-requires g c = (cc (c.join_seat.ensures.0, c.requires.0, c.pass.view_is, c.self.view_is), omega (arith, c.self.invariant), loads_place _ _ _)
