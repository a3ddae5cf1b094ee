-- Empty disks rest at the empty log.
use Rattle.std.proofs.Common.{◌≡◌, ◌<◌, ◌+◌, ◌*◌, ℕ, List, All, length, get_or, arith}
use Rattle.device.specs.Disk.{left_since_of, moment_of, state_of}
use Rattle.device.specs.declared.sim_disk.SimDisk.{SimDisk}
use Rattle.headline.specs.Promised.{devices_at}
use Rattle.laws.specs.Nodes.{NodeName, coordinator, shard, IsThere}
use Rattle.scripts.specs.Sims.{IsEmptyDisk}
use Rattle.stores.specs.NewStores.{empty_machine}
use Rattle.stores.specs.Stores.{RestsOver}
use Rattle.turns.specs.StoreLaws.{IsUnmade}
use Rattle.turns.proofs.ClosedStoreRests.{unmade_stores_rest}

unmade_at : (disks : List SimDisk) (i : ℕ) (any : SimDisk) → i < length disks → All IsEmptyDisk disks → IsUnmade (state_of (get_or disks i any))
unmade_at disks i any lt all = let empty : IsEmptyDisk (get_or disks i any) = all i any lt in record { durable = empty.fresh.durable; written = empty.fresh.written }

pub empty_disks_rest : (store shards : ℕ) (any : SimDisk) (disks : List SimDisk) → length disks ≡ 2 * (shards + 1) → All IsEmptyDisk disks
    → RestsOver state_of (λ (d : SimDisk). Unit {0}) store shards (devices_at any disks) empty_machine
empty_disks_rest store shards any disks count all = unmade_stores_rest state_of (λ (d : SimDisk). Unit {0}) moment_of left_since_of store shards (devices_at any disks) (λ n there. (tt, tt)) unmade
  where
    unmade : (n : NodeName) → IsThere shards n → IsUnmade (state_of (devices_at any disks n).0) × IsUnmade (state_of (devices_at any disks n).1)
    unmade coordinator there = (unmade_at disks 0 any (omega (arith, count)) all, unmade_at disks 1 any (omega (arith, count)) all)
    unmade (shard s) there = (unmade_at disks (2 * (s + 1)) any (omega (arith, count, there)) all, unmade_at disks (2 * (s + 1) + 1) any (omega (arith, count, there)) all)
