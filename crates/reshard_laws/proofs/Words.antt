-- The words that the proofs of this crate name, each from its home.
pub use Rattle.calls.specs.declared.carrying.Reach.{Reach}
pub use Rattle.cluster.specs.Worlds.{flow_count, node_at, WorldView}
pub use Rattle.cluster.specs.declared.event.What.{What}
pub use Rattle.cluster.specs.declared.step.Step.TheVariants.{Care as care_for, Turn}
pub use Rattle.decisions.specs.Coordinators.{CoordinatorView, IsRunning, kept_of, memory_of}
pub use Rattle.device.specs.Device.{left, State}
pub use Rattle.headline.proofs.Joined.{steps_keep}
pub use Rattle.headline.specs.Promised.{devices_at, StepsKeep}
pub use Rattle.headline.specs.Shown.{Shows}
pub use Rattle.journal.specs.Beginnings.{BegunView}
pub use Rattle.journal.specs.Records.{HasRecords}
pub use Rattle.laws.proofs.Lists.{slice_get_taken}
pub use Rattle.laws.specs.Coordinators.{CoordinatorMeans}
pub use Rattle.laws.specs.Machines.{Machine}
pub use Rattle.laws.specs.Nodes.{coordinator, NodeName, shard}
pub use Rattle.laws.specs.Worlds.{coordinator_node, IsLog, shard_node}
pub use Rattle.names.specs.declared.care.Care.TheVariants.{Flush}
pub use Rattle.names.specs.declared.node_name.NodeName.TheVariants.{Coordinator}
pub use Rattle.records.proofs.CoordinatorStates.{coordinator_empty}
pub use Rattle.records.proofs.Insides.{inside_push}
pub use Rattle.records.specs.Checkpoints.{decisions_from}
pub use Rattle.records.specs.Coordinators.{CoordinatorState, IsCoordinatorImage}
pub use Rattle.records.specs.Identity.{coordinator_number, Identity}
pub use Rattle.records.specs.Inside.{inside_from, inside_step}
pub use Rattle.records.specs.Replays.{greatest_number, IsShardImage, ShardState}
pub use Rattle.records.specs.declared.mark.Inside.{Inside}
pub use Rattle.records.specs.declared.mark.Mark.TheVariants.{Ends}
pub use Rattle.records.specs.declared.record.Record.{Record}
pub use Rattle.records.specs.declared.record.Record.TheVariants.{Checkpoint, Epoch}
pub use Rattle.recovery.proofs.Checkpoints.{checkpoint_state}
pub use Rattle.replay.proofs.Doubting.{each_filter}
pub use Rattle.replay.proofs.Rising.{AreKept, IsKept, RisesFrom}
pub use Rattle.reshard.specs.Made.{AreHonest, devices_of, HasAt, shard_first}
pub use Rattle.reshard_laws.specs.Cared.{HasSameList, KeepsList}
pub use Rattle.stores.specs.Flows.{Asked, IsAsked}
pub use Rattle.stores.specs.Moments.{ended, flow_at, Moment, replaced, Running}
pub use Rattle.stores.specs.Stores.{NamesHorizon, RestsOver, StandsOver, stops, Store}
pub use Rattle.tuples.proofs.Same.{tuple_same}
pub use Rattle.tuples.specs.Changes.{tuple_of}
pub use Rattle.tuples.specs.Versions.{of_shard}
pub use Rattle.tuples.specs.declared.entry.Entry.{Entry}
pub use Rattle.tuples.specs.declared.entry.WriteId.{WriteId}
pub use Rattle.tuples.specs.declared.tuple.Tuple.{Tuple}
pub use Rattle.tuples.specs.declared.version.Version.{Version}
pub use Rattle.turns.specs.Promises.{events_of}
pub use Rattle.turns.specs.Runs.{answered, began, Begins, EndsAs, Event, IfRunning, IsIdle, Told, Turns}
pub use Rattle.turns.specs.SeamLaws.{IsSeen}
pub use Rattle.versions.specs.Alike.{AreAlike, of_tuple}
