use Rattle.std.proofs.Common.{◌≡◌, drop}
use Rattle.device.specs.Sim.{filled}
use Rattle.device.specs.Unsynced.{ranges}
use Rattle.device.proofs.content.fill.Given as goal

abbrev pub invariant-loop-call : goal.invariant-loop-call
invariant-loop-call l = filled l.byte (ranges (drop l.call-index l.calls)) l.content.items ≡ filled l.byte (ranges l.calls) l.fn.content.items
