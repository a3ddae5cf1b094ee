-- How far the nodes of a store reach.
use Rattle.std.specs.Prelude.{◌≤◌, ◌<◌, ℕ, List, Ok, MatchOption}
use Rattle.calls.specs.Carrying.{Reaches}
use Rattle.calls.specs.Views.{NodeView}
use Rattle.calls.specs.declared.carrying.Reach.{Reach}
use Rattle.cluster.specs.Worlds.{node_at}
use Rattle.device.specs.Device.{State}
use Rattle.names.specs.declared.node_name.NodeName.{NodeName}
use Rattle.names.specs.declared.node_name.NodeName.TheVariants.{Coordinator, Shard}

-- a shard has learned no less than the log has forgotten, and no more than it keeps
abbrev pub IsWithin : Reach → Reach → Type 0
IsWithin shard log = (log.horizon ≤ shard.place) × (shard.place ≤ log.place)

module _ {D : Type 0} (state : D → State) (honest : D → Type 0) (nodes : List (NodeView D)) where
  -- the node of this name is there, and reaches this far
  abbrev pub ReachesAt : NodeName → Reach → Type 0
  ReachesAt name reach = MatchOption (node_at nodes name) ⊥ (λ node. Reaches state honest node (Ok reach))

  -- the nodes are of one moment of one store
  pub record AreOfOneMoment (shards : ℕ) : Type 0 where
    pub log : Reach
    pub coordinator : ReachesAt Coordinator log
    pub each : (s : ℕ) → s < shards → (reach : Reach) × ReachesAt (Shard s) reach × IsWithin reach log
