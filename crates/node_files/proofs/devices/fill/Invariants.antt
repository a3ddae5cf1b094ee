-- Two more for each shard, each just opened.
use Rattle.std.proofs.Common.{◌≡◌, ◌*◌, ◌+◌, All, vec_len}
use Rattle.node_files.specs.Devices.{IsFound}
use Rattle.node_files.proofs.devices.fill.Given as goal

abbrev pub invariant-loop-shard : goal.invariant-loop-shard
invariant-loop-shard l = record {
  count : vec_len l.devices ≡ 2 * (l.shard + 1);
  found : All (λ d. IsFound d.history.events d.is_stopped d.failures) l.fn.devices.items → All (λ d. IsFound d.history.events d.is_stopped d.failures) l.devices.items;
}
