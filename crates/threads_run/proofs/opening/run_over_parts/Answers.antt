use Rattle.std.proofs.Common.{arith}
use Rattle.device.specs.Disk.{state_of}
use Rattle.locked.proofs.NewDevices.{new_devices_rest}
use Rattle.threads_run.proofs.opening.run_over_parts.Goals as goal

-- New disks rest at the empty list.
pub run_over-requires-clause-rests : goal.run_over-requires-clause-rests
run_over-requires-clause-rests g c κs within = λ rests.
    new_devices_rest state_of (λ d. Unit {0}) 4 c.in-Ok.disks.items (omega (arith, c.in-Ok.ensures.count, c.in-Ok.disks.ok)) c.in-Ok.ensures.new
