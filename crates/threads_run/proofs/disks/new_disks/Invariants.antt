use Rattle.std.proofs.Common.{◌≡◌, ◌*◌, ◌+◌, All, vec_capacity, vec_len}
use Rattle.device.specs.Disk.{state_of}
use Rattle.locked.specs.Opening.{IsNew}
use Rattle.threads_run.proofs.disks.new_disks.Given as goal

abbrev pub invariant-loop-disk : goal.invariant-loop-disk
invariant-loop-disk l = (vec_len l.disks ≡ l.disk) × (vec_capacity l.disks ≡ 2 * (l.fn.shards + 1)) × All (IsNew state_of (λ d. Unit {0})) l.disks.items
