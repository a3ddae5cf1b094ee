-- The versions of all shards, as one list.
use denote.Ref.{Bor}
use Rattle.std.specs.Prelude.{◌≡◌, ℕ, zero, suc, List, [], ◌++◌, Ok, MatchOption}
use Rattle.std.specs.List.Sorted.{IsPermutation, IsSorted}
use Rattle.calls.specs.Rows.{KnownOf}
use Rattle.calls.specs.Views.{NodeView}
use Rattle.cluster.specs.Worlds.{node_at}
use Rattle.device.specs.Device.{State}
use Rattle.names.specs.declared.node_name.NodeName.TheVariants.{Shard}
use Rattle.records.specs.Replays.{ShardState}
use Rattle.tuples.specs.declared.version.Version.{Version}
use Rattle.versions.specs.Rows.{version_cmp}

module _ {D : Type 0} (state : D → State) (honest : D → Type 0) (nodes : List (NodeView D)) where
  -- the shard of this number shows that in memory
  abbrev pub IsKnownOf : ℕ → Bor ShardState → Type 0
  IsKnownOf s known = MatchOption (node_at nodes (Shard s)) ⊥ (λ node. KnownOf state honest node (Ok known))

  -- and these are its versions
  pub record TellsShard (s : ℕ) (told : List Version) : Type 0 where
    pub known : Bor ShardState
    pub rows_are : known.now.rows ≡ told
    pub tells : IsKnownOf s known

  -- and so does each of the first shards: the versions of all, one after the other
  abbrev pub TellAll : ℕ → List Version → Type 0
  TellAll zero told = told ≡ []
  TellAll (suc s) told = (before more : List Version) × TellAll s before × TellsShard s more × (told ≡ before ++ more)

  -- all versions of the shards, by tuple and then by place
  pub record AreGathered (shards : ℕ) (rows : List Version) : Type 0 where
    pub told : List Version
    pub tell : TellAll shards told
    pub same : IsPermutation told rows
    pub in_order : IsSorted version_cmp rows
