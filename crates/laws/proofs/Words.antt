-- The words that the proofs of this crate name, each from its home.
pub use Rattle.laws.specs.Coordinators.{CoordinatorMeans}
pub use Rattle.laws.specs.LogLaws.{IsUnlisted}
pub use Rattle.laws.specs.Shards.{ShardMeans}
pub use Rattle.laws.specs.Worlds.{AreGivenInDoubt, IsLog, IsMeaning, Means, coordinator_node, shard_node}
pub use Rattle.records.specs.Coordinators.{CoordinatorState, IsCoordinatorImage, coordinator_state, end_of}
pub use Rattle.records.specs.Replays.{IsShardImage, ShardState, find_in_doubt, is_held, learned_rows, named, shard_state}
pub use Rattle.records.specs.declared.record.Record.{Record}
pub use Rattle.records.specs.declared.record.Record.TheVariants.{Decision, Dropped, Epoch, Horizon, Learned, Prepare}
pub use Rattle.replay.proofs.Doubts.{find_put, none_stays}
pub use Rattle.shard.specs.Shards.{placed_ids_from}
pub use Rattle.tuples.proofs.Same.{tuple_same}
pub use Rattle.tuples.specs.Changes.{IsWrite, changed, conditioned, has_tuple, tuple_of}
pub use Rattle.tuples.specs.Log.{AreNew, Holds, is_at, last_from, meets_want, same_id, there_after}
pub use Rattle.tuples.specs.Order.{tuple_eq}
pub use Rattle.tuples.specs.Parts.{shard_of}
pub use Rattle.tuples.specs.Versions.{changes_from, collected, is_touch, of_shard, placed, superseded}
pub use Rattle.tuples.specs.Watching.{events_from}
pub use Rattle.tuples.specs.declared.change.Change.{Change}
pub use Rattle.tuples.specs.declared.change.Change.TheVariants.{Delete, Touch}
pub use Rattle.tuples.specs.declared.change.Condition.{Condition}
pub use Rattle.tuples.specs.declared.change.Want.{Want}
pub use Rattle.tuples.specs.declared.change.Want.TheVariants.{Absent, Exists, NotAfter}
pub use Rattle.tuples.specs.declared.entry.Entry.{Entry}
pub use Rattle.tuples.specs.declared.entry.WriteId.{WriteId}
pub use Rattle.tuples.specs.declared.tuple.Tuple.{Tuple}
pub use Rattle.tuples.specs.declared.version.Version.{Version}
pub use Rattle.versions.proofs.Alike.{alike_refl, alike_same, alike_trans, last_alike}
