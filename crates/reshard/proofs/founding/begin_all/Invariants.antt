use Rattle.std.proofs.Common.{◌-◌, All}
use Rattle.std.specs.Vec.{vec_len}
use Rattle.reshard.specs.Refusing.{IsBlank}
use Rattle.reshard.proofs.Founded.{BegunSoFar}
use Rattle.reshard.proofs.Written.{HeadSoFar}
use Rattle.reshard.proofs.founding.begin_all.Given as goal

abbrev pub invariant-loop-alloc : goal.invariant-loop-alloc
invariant-loop-alloc g l = record {
  so_far : BegunSoFar g.D.Device.honest l.count l.fn.devices l.devices l.begun;
  head : HeadSoFar g.D.Device.state g.D.Device.honest g.D.Device.moment g.D.Device.left_since l.fn.devices.items l.begun.items l.devices.items;
  blank : All (IsBlank g.D.Device.state g.D.Device.honest) l.fn.devices.items → All (IsBlank g.D.Device.state g.D.Device.honest) l.devices.items;
}

abbrev pub decreases-loop-alloc : goal.decreases-loop-alloc
decreases-loop-alloc g l = l.count - vec_len l.begun
