-- A node as its callers see it.
use Rattle.std.specs.Prelude.{◌+◌, ◌-◌, ◌^◌, ℕ, min}
use Rattle.refusal.specs.declared.refusal.Refusal.{Refusal}
use Rattle.decisions.specs.Coordinators.{CoordinatorView}
use Rattle.shard.specs.Shards.{ShardView}

-- A coordinator or a shard that was opened; or the refusal of an opening, answered until the next one, with the devices.
pub data NodeView (D : Type 0) : Type 0 where
  coordinator : CoordinatorView D → NodeView D
  shard : ShardView D → NodeView D
  refused : Refusal → D → D → NodeView D

-- the devices of banks a and b
abbrev pub devices_of : {D : Type 0} → NodeView D → D × D
devices_of (coordinator v) = (v.a, v.b)
devices_of (shard v) = (v.a, v.b)
devices_of (refused e a b) = (a, b)

-- how many bytes the current bank has, up to and including the gate that ends its list; none for a node whose opening was refused
abbrev pub bank_len_of : {D : Type 0} → NodeView D → ℕ
bank_len_of (coordinator v) = min (2 ^ 64 - 1) (v.end + 1)
bank_len_of (shard v) = min (2 ^ 64 - 1) (v.end + 1)
bank_len_of (refused e a b) = 0
