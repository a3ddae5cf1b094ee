use Rattle.std.proofs.Common.{arith}
use Rattle.joint.proofs.Keeping.{notes}
use Rattle.joint.proofs.state.Joint.note.Goals as goal

pub split_seat-requires : goal.split_seat-requires
split_seat-requires g c = (cc (c.requires.own, c.pass.view_is, c.self.view_is), omega (arith, c.self.invariant), notes _ _ _ _ c.pass.invariant.0)
