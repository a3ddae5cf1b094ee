use Rattle.std.specs.Vec.{vec_len}
use Rattle.reshard.proofs.Founded.{GivenBack}
use Rattle.reshard.proofs.founding.give_back.Given as goal

abbrev pub invariant-loop-node : goal.invariant-loop-node
invariant-loop-node g l = GivenBack l.fn.begun l.fn.devices l.begun l.devices

abbrev pub decreases-loop-node : goal.decreases-loop-node
decreases-loop-node g l = vec_len l.begun
