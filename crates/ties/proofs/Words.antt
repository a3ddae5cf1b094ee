-- The words that the proofs of this crate name, each from its home.
pub use Rattle.decisions.specs.Coordinators.{CoordinatorView, IsGivenAt, IsRunning, kept_of, memory_of, without_id}
pub use Rattle.device.specs.Device.{left as device_left, State}
pub use Rattle.journal.specs.Records.{LeavesBoth}
pub use Rattle.laws.proofs.Lists.{slice_get_taken}
pub use Rattle.laws.specs.Worlds.{AreWhole, coordinator_node, shard_node}
pub use Rattle.records.proofs.CoordinatorStates.{coordinator_push}
pub use Rattle.records.specs.Checkpoints.{generation_of}
pub use Rattle.records.specs.Coordinators.{coordinator_from, CoordinatorState}
pub use Rattle.records.specs.Identity.{Identity}
pub use Rattle.records.specs.Replays.{ShardState}
pub use Rattle.records.specs.declared.record.Record.{Record}
pub use Rattle.records.specs.declared.record.Record.TheVariants.{Decision, Dropped, Epoch, Horizon, Learned, Prepare}
pub use Rattle.replay.proofs.States.{shard_push}
pub use Rattle.shard.specs.Shards.{memory, ShardView}
pub use Rattle.ties.specs.JoiningLaws.{Joins}
pub use Rattle.ties.specs.ShardTies.{AreRowsOf, IsShardTiedUp, RowsAnywhere}
pub use Rattle.ties.specs.Ties.{Anywhere, AreListed, AreOf, AreOutside, AreStaged, AreTried, Attempt, behind, IsLonger, IsTiedUp, StandsOrIsPast}
pub use Rattle.tuples.specs.Changes.{IsWrite}
pub use Rattle.tuples.specs.Versions.{changes_from, of_shard}
pub use Rattle.tuples.specs.declared.entry.Entry.{Entry}
pub use Rattle.tuples.specs.declared.entry.WriteId.{WriteId}
pub use Rattle.versions.proofs.Alike.{alike_trans}
pub use Rattle.versions.specs.Alike.{AreAlike}
