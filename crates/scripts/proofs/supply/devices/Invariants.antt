use Rattle.std.proofs.Common.{◌≡◌, ◌*◌, ◌+◌, All, vec_capacity, vec_len}
use Rattle.scripts.proofs.supply.devices.Given as goal

abbrev pub invariant-loop : goal.invariant-loop
invariant-loop g l = (vec_len l.devices ≡ l.counter) × (vec_capacity l.devices ≡ 2 * (l.fn.shards + 1)) × All g.P.Supply.gives l.devices.items
