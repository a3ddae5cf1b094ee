-- One for each device so far.
use Rattle.std.proofs.Common.{◌≡◌, vec_len}
use Rattle.node_files.proofs.pulses.pulses.Given as goal

abbrev pub invariant-loop-device : goal.invariant-loop-device
invariant-loop-device l = vec_len l.pulses ≡ l.device-index
