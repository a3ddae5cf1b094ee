use Rattle.std.proofs.Common.{arith}
use Rattle.joint.proofs.Keeping.{looks}
use Rattle.joint.proofs.state.Joint.look.Goals as goal

pub load-requires : goal.load-requires
load-requires g c = (cc (c.requires.own, c.pass.view_is, c.self.view_is), omega (arith, c.self.invariant), looks _ _ _ _ _ c.pass.invariant.0)
