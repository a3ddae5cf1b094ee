use Rattle.std.proofs.Common.{arith}
use Rattle.joint.proofs.Keeping.{leaves}
use Rattle.joint.proofs.state.Joint.leave.Goals as goal

pub split_seat-requires : goal.split_seat-requires
split_seat-requires g c = (cc (c.requires.own, c.pass.view_is, c.self.view_is), omega (arith, c.self.invariant), leaves _ _ _ _ c.pass.invariant.0)
