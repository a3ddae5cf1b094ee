use Rattle.std.proofs.Common.{arith}
use Rattle.joint.proofs.Keeping.{joins}
use Rattle.joint.proofs.state.Joint.join.Goals as goal

pub join_seat-requires : goal.join_seat-requires
join_seat-requires g c = (cc (c.requires.own.0, c.pass.view_is, c.self.view_is), cc (c.requires.own.1, c.other.view_is, c.self.view_is), c.other.invariant.1, omega (arith, c.self.invariant), joins _ _ _ _ _ _ c.pass.invariant.0)
