-- In which order the new devices are written: what a stop leaves of the coordinator's, at every moment.
use Rattle.std.specs.Prelude.{◌≡◌, ◌⊎◌, ℕ, List, [], ◌∷◌, ◌++◌, true, Some, All}
use Rattle.calls.specs.Views.{coordinator}
use Rattle.calls.specs.declared.carrying.Reach.{Reach}
use Rattle.cluster.specs.Worlds.{WorldView, node_at}
use Rattle.decisions.specs.Checkpoints.{carried_checkpoint}
use Rattle.decisions.specs.Coordinators.{CoordinatorView, IsRunning}
use Rattle.device.specs.Device.{LeavesOnly, State}
use Rattle.gated.specs.Gated.{HasList}
use Rattle.journal.specs.Beginnings.{BegunView, HasBeginsOr, HasNone, HasNoneOrBegins}
use Rattle.names.specs.declared.node_name.NodeName.TheVariants.{Coordinator}
use Rattle.tuples.specs.declared.version.Version.{Version}
use Rattle.reshard.specs.Caring.{HaveReached}
use Rattle.reshard.specs.Gathering.{AreGathered}
use Rattle.reshard.specs.Made.{HaveShards, devices_of}

-- the first node is not touched
abbrev pub KeepsFirst : {D : Type 0} → List (BegunView D) → List (BegunView D) → Type 0
KeepsFirst {D} nodes new = (head : BegunView D) (others : List (BegunView D)) → nodes ≡ head ∷ others → (more : List (BegunView D)) × (new ≡ head ∷ more)

module _ {D : Type 0} (state : D → State) (honest : D → Type 0) (moment : D → ℕ) (left_since : D → ℕ → List ℕ → Type 0) where
  -- an honest device without a record
  pub record IsEmpty (d : D) : Type 0 where
    pub is_honest : honest d
    pub none : HasList (state d) []

  -- From two devices to two others: at every moment a stop leaves no record, or of the first one only that a checkpoint has begun.
  pub record OnlyBegins (a b c d : D) : Type 0 where
    pub first : LeavesOnly moment left_since a c HasNoneOrBegins
    pub second : LeavesOnly moment left_since b d HasNone

  -- one node more has begun, on the next two devices
  pub record BeginsNode (old : List D) (old_nodes : List (BegunView D)) (new : List D) (new_nodes : List (BegunView D)) : Type 0 where
    pub a : D
    pub b : D
    pub node : BegunView D
    pub old_is : old ≡ a ∷ b ∷ new
    pub new_is : new_nodes ≡ old_nodes ++ node ∷ []
    pub is_open : node.is_open ≡ true
    pub still_honest : honest a → honest node.a
    pub moments : IsEmpty a → IsEmpty b → OnlyBegins a b node.a node.b

  -- the first two devices stand where two others stood
  pub record PutsTwoBack (old new : List D) : Type 0 where
    pub a : D
    pub b : D
    pub later_a : D
    pub later_b : D
    pub rest : List D
    pub old_is : old ≡ a ∷ b ∷ rest
    pub new_is : new ≡ later_a ∷ later_b ∷ rest
    pub moments : IsEmpty a → IsEmpty b → OnlyBegins a b later_a later_b

  -- The checkpoint of the first node has begun on the first two devices, and its end was not tried.
  pub record HasBegunOn (given : List D) (head : BegunView D) : Type 0 where
    pub a : D
    pub b : D
    pub rest : List D
    pub given_is : given ≡ a ∷ b ∷ rest
    pub is_open : head.is_open ≡ true
    pub still_honest : honest a → honest head.a
    pub moments : IsEmpty a → IsEmpty b → OnlyBegins a b head.a head.b

  -- the devices are as they were, or the first two stand where they stood
  abbrev pub FirstTwo : List D → List D → Type 0
  FirstTwo given devices = (devices ≡ given) ⊎ PutsTwoBack given devices

  -- no node has begun, or the first one has
  abbrev pub HeadBegins : List D → List (BegunView D) → List D → Type 0
  HeadBegins given nodes devices = ((nodes ≡ []) × FirstTwo given devices) ⊎ ((head : BegunView D) × (others : List (BegunView D)) × (nodes ≡ head ∷ others) × HasBegunOn given head)

  module _ (old : WorldView D) (shards : ℕ) where
    -- The end of the coordinator's was tried: since then a stop leaves that it has begun, or all that the old coordinator knows.
    abbrev pub EndsLog : BegunView D → BegunView D → Type 0
    EndsLog head last = (v : CoordinatorView D) → node_at old.nodes Coordinator ≡ Some (coordinator v) → IsRunning state honest v → head.is_open ≡ true → honest head.a
        → LeavesOnly moment left_since head.a last.a (HasBeginsOr (carried_checkpoint shards v)) × (last.b ≡ head.b)

    -- the first node was not touched, or is another one by its end, and no other node has changed
    abbrev pub EndsFirst : List (BegunView D) → List (BegunView D) → Type 0
    EndsFirst nodes new = (head : BegunView D) (others : List (BegunView D)) → nodes ≡ head ∷ others → (last : BegunView D) × (new ≡ last ∷ others) × EndsLog head last

    module _ (reach : Reach) (rows : List Version) where
      -- Each shard's checkpoint is whole, and only then is the end of the coordinator's tried.
      pub record EndsLast (is_fine : Type 0) (head : BegunView D) (new : List (BegunView D)) : Type 0 where
        pub last : BegunView D
        pub others : List (BegunView D)
        pub new_is : new ≡ last ∷ others
        pub each : is_fine → HaveShards state old.store shards reach rows shards (head ∷ others)
        pub ends : EndsLog head last

      -- The first node was not touched; or each shard's checkpoint is whole, and the end of the coordinator's was tried.
      abbrev pub HasTried : Type 0 → BegunView D → List (BegunView D) → Type 0
      HasTried is_fine head new = ((more : List (BegunView D)) × (new ≡ head ∷ more)) ⊎ EndsLast is_fine head new

      -- What comes back if they are not all written: no more than the coordinator's checkpoint has begun, or all but its end is there, which was tried.
      abbrev pub AreLeft : List D → List D → Type 0
      AreLeft given back = FirstTwo given back ⊎ ((head : BegunView D) × HasBegunOn given head × (nodes : List (BegunView D)) × (rest : List D) × (back ≡ devices_of nodes ++ rest) × HasTried (All honest given) head nodes)

      -- The coordinator's checkpoint has begun, those of the shards are whole, and only then is the end of the coordinator's tried.
      pub record AreWrittenInOrder (given made : List D) : Type 0 where
        pub head : BegunView D
        pub begun : HasBegunOn given head
        pub nodes : List (BegunView D)
        pub made_is : made ≡ devices_of nodes
        pub ended : EndsLast (All honest given) head nodes

    -- What comes back if a store is not carried over: all as it was, or written so far with what the old store knows, whose nodes all reach equally far.
    abbrev pub IsLeftOver : List D → List D → Type 0
    IsLeftOver given back = (back ≡ given) ⊎ ((reach : Reach) × (rows : List Version) × HaveReached state honest old.nodes old.shards reach × AreGathered state honest old.nodes old.shards rows × AreLeft reach rows given back)
