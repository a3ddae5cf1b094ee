use Rattle.std.proofs.Common.{◌-◌, ◌≤◌}
use Rattle.files.proofs.host_file.HostFile.write_zeros.Given as goal

abbrev pub invariant-loop-at : goal.invariant-loop-at
invariant-loop-at l = Unit {0}

abbrev pub decreases-loop-at : goal.decreases-loop-at
decreases-loop-at l = l.len - l.at
