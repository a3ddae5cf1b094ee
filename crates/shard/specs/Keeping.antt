-- What a shard keeps beside its journal: in memory the replay of its records, and the ids whose prepares are not flushed.
use Rattle.std.specs.Prelude.{◌≡◌, ◌≤◌, ◌<◌, ℕ, Bool, false, List, [], ◌∷◌, ◌++◌}
use Rattle.std.specs.List.{list_any}
use Rattle.tuples.specs.declared.entry.WriteId.{WriteId}
use Rattle.tuples.specs.Log.{same_id}
use Rattle.records.specs.declared.record.Record.{Record}
use Rattle.records.specs.declared.record.Record.TheVariants.{Prepare, Learned, Dropped, Epoch, Decision, Horizon, Checkpoint}
use Rattle.records.specs.Identity.{max_shards}
use Rattle.records.specs.Replays.{Identity, IsShardImage, ShardState, shard_state}
use Rattle.replay.specs.Alike.{IsAlike}
use Rattle.device.specs.Device.{State}
use Rattle.decisions.specs.Values.{NamesNode}
use Rattle.journal.specs.Records.{HasRecords, View}

-- the ids of the prepares among these records
abbrev pub prepared_ids : List Record → List WriteId
prepared_ids [] = []
prepared_ids (Prepare w ∷ rs) = w.id ∷ prepared_ids rs
prepared_ids (Learned to placed_ids ∷ rs) = prepared_ids rs
prepared_ids (Dropped id ∷ rs) = prepared_ids rs
prepared_ids (Epoch epoch store shards node ∷ rs) = prepared_ids rs
prepared_ids (Decision place w ∷ rs) = prepared_ids rs
prepared_ids (Checkpoint mark ∷ rs) = prepared_ids rs
prepared_ids (Horizon place ∷ rs) = prepared_ids rs

-- the id is one of these
abbrev pub has_id : WriteId → List WriteId → Bool
has_id id = list_any (λ (y : WriteId). same_id y id)

-- over honest devices the records are the durable and the staged ones, and every stop leaves the durable ones
pub record IsBacked {D : Type 0} (state : D → State) (journal : View D) (rs : List Record) : Type 0 where
  pub rest : HasRecords (state journal.a) (state journal.b) journal.durable
  pub whole : rs ≡ journal.durable ++ journal.staged

-- the memory is alike to the replay of records of this shard, those of the journal if that is up; beside it the ids whose prepares are staged, and the
-- place that the durable records have learned
pub record IsKept {D : Type 0} (state : D → State) (honest : D → Type 0) (journal : View D) (me : Identity) (memory : ShardState) (unflushed : List WriteId) (settled : ℕ) : Type 0 where
  pub rs : List Record
  pub replayed : IsAlike memory (shard_state rs)
  pub image : IsShardImage me rs
  pub opened : 1 ≤ memory.epoch
  pub some : 1 ≤ me.shards
  pub few : me.shards ≤ max_shards
  pub node : me.node < me.shards
  pub backed : journal.is_down ≡ false → honest journal.a → honest journal.b → IsBacked state journal rs
  pub named : journal.is_down ≡ false → honest journal.a → honest journal.b → NamesNode journal.durable me.node
  pub unflushed_are : journal.is_down ≡ false → unflushed ≡ prepared_ids journal.staged
  pub settled_is : journal.is_down ≡ false → honest journal.a → honest journal.b → settled ≡ (shard_state journal.durable).learned

-- the memory is alike to the replay of these records
abbrev pub IsMemoryOf : List Record → ShardState → Type 0
IsMemoryOf rs memory = IsAlike memory (shard_state rs)
