-- A checkpoint of a shard: what it has, and what the shard is after it.
use Rattle.std.specs.Prelude.{◌≡◌, ◌⊎◌, ◌+◌, ℕ, List, [], ◌∷◌, ◌++◌, Some, map}
use Rattle.std.specs.List.Sorted.{IsSorted}
use Rattle.tuples.specs.declared.version.Version.{Version}
use Rattle.records.specs.declared.record.Record.{Record}
use Rattle.records.specs.declared.record.Record.TheVariants.{Epoch, Horizon, Learned}
use Rattle.records.specs.Checkpoints.{generation_of}
use Rattle.records.specs.Replays.{Identity, ShardState}
use Rattle.versions.specs.Alike.{AreAlike}
use Rattle.versions.specs.Rows.{version_cmp}
use Rattle.replay.specs.Checkpoints.{prepare_of, row_of, shard_checkpoint}
use Rattle.device.specs.Device.{State}
use Rattle.journal.specs.Records.{HasOldOrNew, found}
use Rattle.shard.specs.Shards.{IsUp, ShardView, memory}

-- before the versions: the openings so far, the horizon and the place learned
abbrev pub heads_of : Identity → ShardState → List Record
heads_of me s = Epoch s.epoch me.store me.shards me.node ∷ Horizon s.horizon ∷ Learned s.learned [] ∷ []

-- what a shard knows, as the records between the begin and the end of a checkpoint
abbrev pub told_by : Identity → ShardState → List Record
told_by me s = heads_of me s ++ (map row_of s.rows ++ map prepare_of s.in_doubt)

-- the records of a checkpoint of what the shard knows, of the next generation, whose versions stand by tuple and then by place
pub record IsNextCheckpoint {D : Type 0} (v : ShardView D) (cs : List Record) : Type 0 where
  pub listed : List Version
  pub alike : AreAlike (memory v).rows listed
  pub in_order : IsSorted version_cmp listed
  pub is : cs ≡ shard_checkpoint v.me (generation_of v.durable + 1) (memory v) listed

-- the contents have the durable records, with what is staged or without, or such a checkpoint
abbrev pub HasOldNewOrPoint : {D : Type 0} → ShardView D → List ℕ → List ℕ → Type 0
HasOldNewOrPoint v x y = HasOldOrNew v.durable v.staged x y ⊎ ((cs : List Record) × (found x y ≡ Some cs) × IsNextCheckpoint v cs)

-- the shard is up, and has such a checkpoint and nothing else
pub record ChecksPointAt {D : Type 0} (state : D → State) (honest : D → Type 0) (old new : ShardView D) : Type 0 where
  pub up : IsUp state honest new
  pub durable : IsNextCheckpoint old new.durable
  pub staged : new.staged ≡ []
