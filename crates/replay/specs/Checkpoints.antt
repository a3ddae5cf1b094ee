-- What a checkpoint of a shard holds, and that it stands for what the shard's records stand for.
use Rattle.std.specs.Prelude.{◌≡◌, ◌≤◌, ℕ, List, [], ◌∷◌, ◌++◌, map}
use Rattle.tuples.specs.declared.entry.Entry.{Entry}
use Rattle.tuples.specs.declared.version.Version.{Version}
use Rattle.tuples.specs.Limits.{max_number}
use Rattle.records.specs.declared.mark.Mark.TheVariants.{Begins, Row, Ends}
use Rattle.records.specs.declared.record.Record.{Record}
use Rattle.records.specs.declared.record.Record.TheVariants.{Prepare, Learned, Epoch, Horizon, Checkpoint}
use Rattle.records.specs.Replays.{Identity, IsShardImage, ShardState, shard_state}
use Rattle.versions.specs.Alike.{AreAlike}
use Rattle.replay.specs.Alike.{IsAlike}

-- the mark of a version
abbrev pub row_of : Version → Record
row_of v = Checkpoint (Row v.place v.change)

abbrev pub prepare_of : Entry → Record
prepare_of w = Prepare w

-- the checkpoint of a shard that knows this, with its versions in this order
abbrev pub shard_checkpoint : Identity → ℕ → ShardState → List Version → List Record
shard_checkpoint me generation s listed =
    Checkpoint (Begins generation) ∷ Epoch s.epoch me.store me.shards me.node ∷ Horizon s.horizon ∷ Learned s.learned [] ∷ map row_of listed ++ (map prepare_of s.in_doubt ++ Checkpoint (Ends generation) ∷ [])

-- records of the same shard, which stand for what reads the same
pub record StandsForShard (me : Identity) (rs cs : List Record) : Type 0 where
  pub image : IsShardImage me cs
  pub alike : IsAlike (shard_state rs) (shard_state cs)

-- A checkpoint of what a shard's records stand for stands for the same, in whatever order the versions of different tuples are listed.
abbrev pub ShardCheckpointsStand : Type 0
ShardCheckpointsStand = (me : Identity) (rs : List Record) (generation : ℕ) (listed : List Version) → IsShardImage me rs → 1 ≤ (shard_state rs).epoch → 1 ≤ generation → generation ≤ max_number
    → AreAlike (shard_state rs).rows listed → StandsForShard me rs (shard_checkpoint me generation (shard_state rs) listed)
