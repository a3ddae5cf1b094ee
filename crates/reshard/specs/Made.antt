-- What the new devices have.
use Rattle.std.specs.Prelude.{◌≡◌, ◌<◌, ◌+◌, ℕ, List, [], ◌∷◌, ◌++◌, length, map, Some, slice_get, All}
use Rattle.calls.specs.Views.{coordinator}
use Rattle.calls.specs.declared.carrying.Reach.{Reach}
use Rattle.cluster.specs.Worlds.{WorldView, node_at}
use Rattle.decisions.specs.Checkpoints.{carried_checkpoint}
use Rattle.decisions.specs.Coordinators.{CoordinatorView, IsRunning}
use Rattle.device.specs.Device.{State}
use Rattle.journal.specs.Ahead.{checkpoint_of}
use Rattle.journal.specs.Beginnings.{BegunView}
use Rattle.journal.specs.Records.{HasRecords}
use Rattle.names.specs.declared.node_name.NodeName.TheVariants.{Coordinator}
use Rattle.records.specs.Identity.{Identity}
use Rattle.records.specs.declared.record.Record.{Record}
use Rattle.records.specs.declared.record.Record.TheVariants.{Epoch, Horizon, Learned}
use Rattle.replay.specs.Checkpoints.{row_of}
use Rattle.reshard.specs.Caring.{HaveReached}
use Rattle.reshard.specs.Gathering.{AreGathered}
use Rattle.tuples.specs.Versions.{of_shard}
use Rattle.tuples.specs.declared.version.Version.{Version}

-- before the versions: it was opened once, its horizon, and the place that it has learned
abbrev pub heads_of : Identity → Reach → List Record
heads_of me reach = Epoch 1 me.store me.shards me.node ∷ Horizon reach.horizon ∷ Learned reach.place [] ∷ []

-- the first checkpoint of a shard that has its own of these versions, and no write in doubt
abbrev pub shard_first : Identity → Reach → List Version → List Record
shard_first me reach rows = checkpoint_of 1 (heads_of me reach ++ map row_of (of_shard me.shards me.node rows))

abbrev pub shard_of_store : ℕ → ℕ → ℕ → Identity
shard_of_store store shards s = record { store = store; shards = shards; node = s }

-- the devices of nodes, those of the first before those of the next
abbrev pub devices_of : {D : Type 0} → List (BegunView D) → List D
devices_of [] = []
devices_of (n ∷ nodes) = n.a ∷ n.b ∷ devices_of nodes

-- the devices of each node are honest
abbrev pub AreHonest : {D : Type 0} → (D → Type 0) → List (BegunView D) → Type 0
AreHonest honest = All (λ n. honest n.a × honest n.b)

module _ {D : Type 0} (state : D → State) where
  -- every content that a stop may leave of the node at this place has these records
  abbrev pub HasAt : List (BegunView D) → ℕ → List Record → Type 0
  HasAt nodes place rs = (n : BegunView D) → slice_get nodes place ≡ Some n → HasRecords (state n.a) (state n.b) rs

  -- the new shards of these numbers have their own of the versions
  abbrev pub HaveShards : ℕ → ℕ → Reach → List Version → ℕ → List (BegunView D) → Type 0
  HaveShards store shards reach rows count nodes = (s : ℕ) → s < count → HasAt nodes (s + 1) (shard_first (shard_of_store store shards s) reach rows)

  -- the new coordinator has what the old one knows
  abbrev pub HasLog : (D → Type 0) → WorldView D → ℕ → List (BegunView D) → Type 0
  HasLog honest old shards nodes = (v : CoordinatorView D) → node_at old.nodes Coordinator ≡ Some (coordinator v) → IsRunning state honest v → HasAt nodes 0 (carried_checkpoint shards v)

  -- Over honest devices, each new node has exactly its own of what the old store knows.
  pub record AreMade (honest : D → Type 0) (old : WorldView D) (shards : ℕ) (reach : Reach) (rows : List Version) (given made : List D) : Type 0 where
    pub nodes : List (BegunView D)
    pub count : length nodes ≡ shards + 1
    pub made_is : made ≡ devices_of nodes
    pub still_honest : All honest given → AreHonest honest nodes
    pub each : All honest given → HaveShards old.store shards reach rows shards nodes
    pub log : All honest given → HasLog honest old shards nodes

  -- What the old store knows, whose nodes all reach equally far, is what the new devices have.
  pub record IsCarriedOver (honest : D → Type 0) (old : WorldView D) (shards : ℕ) (given made : List D) : Type 0 where
    pub reach : Reach
    pub rows : List Version
    pub reached : HaveReached state honest old.nodes old.shards reach
    pub gathered : AreGathered state honest old.nodes old.shards rows
    pub are_made : AreMade honest old shards reach rows given made
