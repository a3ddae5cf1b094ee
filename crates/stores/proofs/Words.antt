-- The words that the proofs of this crate name, each from its home.
pub use Rattle.decisions.specs.Standing.{DecidedValue, HeadsValue, IsGivenOut, IsSettled, IsShardEpoch}
pub use Rattle.decisions.specs.Values.{BatchValue, IntentValue}
pub use Rattle.journal.specs.Records.{HasNoRoom}
pub use Rattle.laws.proofs.CoordinatorStates.{coordinator_from-append, coordinator_last, coordinator_push, end_is_length}
pub use Rattle.laws.proofs.EmptyStore.{empty_rests}
pub use Rattle.laws.proofs.LessLeft.{horizon_rises, less_rests, raised_means, whole_rests}
pub use Rattle.laws.proofs.Lists.{slice_get_taken}
pub use Rattle.laws.proofs.Locks.{doubts_apart, not_found, of_without, same_or_not}
pub use Rattle.laws.proofs.ShardSteps.{opened_shard_means}
pub use Rattle.laws.specs.CoordinatorLaws.{IsLearnedInAll, IsPreparedInAll}
pub use Rattle.laws.specs.LogLaws.{IsUnlisted}
pub use Rattle.laws.specs.Machines.{Machine}
pub use Rattle.laws.specs.Nodes.{CoordinatorKnows, IsGivenBy, IsOfRefusedOpening, NodeName, NodeState, Nodes, SameBut, ShardKnows, StandFor, coordinator, down, leaves, refused, shard, staged_of, up}
pub use Rattle.laws.specs.ShardLaws.{AreOfLog}
pub use Rattle.laws.specs.Shards.{ShardMeans, there_below}
pub use Rattle.laws.specs.Worlds.{Means, Rests, coordinator_node, shard_node}
pub use Rattle.records.specs.Coordinators.{CoordinatorState, IsCoordinatorImage, MayRaise, coordinator_from, coordinator_state, empty_coordinator, end_of}
pub use Rattle.records.specs.Format.{IsRecord}
pub use Rattle.records.specs.Replays.{Identity, IsShardImage, MayCome, MayOpen, ShardState, empty_shard, find_in_doubt, shard_from, shard_state, without}
pub use Rattle.records.specs.declared.record.PlacedId.{PlacedId}
pub use Rattle.records.specs.declared.record.Record.{Record}
pub use Rattle.records.specs.declared.record.Record.TheVariants.{Decision, Dropped, Epoch, Horizon, Learned, Prepare}
pub use Rattle.refusal.specs.declared.refusal.Refusal.{Refusal}
pub use Rattle.replay.proofs.Doubts.{find_put_same}
pub use Rattle.replay.proofs.States.{image_last, shard_from-append, shard_push}
pub use Rattle.shard.specs.Shards.{AskBelow, placed_ids_from}
pub use Rattle.stores.specs.AbortLaws.{IsUndecidedFlow, with_closed, with_verdict}
pub use Rattle.stores.specs.Causes.{CallsShard, IsBusy, IsCutOff, IsFull}
pub use Rattle.stores.specs.DecidingLaws.{IsDeciding, StandsButFor, with_decision, with_write}
pub use Rattle.stores.specs.FlowLaws.{IsBegin, with_flow, with_intent, with_open}
pub use Rattle.stores.specs.Flows.{Asked, Freshness, HeadsHeld, HeldTicket, HeldVote, Holds, Resolved, WriteHolds, aborted, at_least, checking, collecting, committed, exact, flushing, id_of, latest, learning, named_by, onward, outward, raising, reading, resolving, to_check, to_collect, to_flush, to_learn, to_raise, to_read, to_resolve, to_watch, to_write, undecided, watching, writing}
pub use Rattle.stores.specs.FlushLaws.{FailsFlush, FlushesCoordinator, FlushesShard, all_kept}
pub use Rattle.stores.specs.Held.{AreHeldHeads, AreRightHeads, IsOpen, IsRight, IsRightBatch, IsRightDecision, IsRightIntent, IsRightOwn, IsRightResolved, IsRightSettled, IsRightTicket, IsRightVerdict, IsRightVote, IsRightWrite, IsStaged, IsUndecided, WasGiven, own_write}
pub use Rattle.stores.specs.Moments.{Moment, Running, begun, ended, flow_at, replaced}
pub use Rattle.stores.specs.NewStores.{only_opened, opened, opened_nodes, opening_of}
pub use Rattle.stores.specs.OpeningLaws.{OpensShard}
pub use Rattle.stores.specs.PrepareLaws.{IsPreparing}
pub use Rattle.stores.specs.RaisingLaws.{StagesHorizon}
pub use Rattle.stores.specs.Replies.{IsAsWanted, IsPlaceOf, IsResolved, IsWriteAnswer}
pub use Rattle.stores.specs.StagingLaws.{IsStaging, with_nodes}
pub use Rattle.stores.specs.Stands.{AreApart, FlowsStand, HasSeenBelow, HeadsStand, IdsStand, IsQuietFlow, ListedStand, LocksStand, NodesStand, Stands, at_shards}
pub use Rattle.tuples.proofs.Lists.{slice_get_drop, slice_get_push}
pub use Rattle.tuples.specs.Changes.{tuple_of}
pub use Rattle.tuples.specs.Checking.{holding}
pub use Rattle.tuples.specs.Log.{AreNew, HoldAfter, is_at, same_id, there_after}
pub use Rattle.tuples.specs.Parts.{part, shard_of, takes_part}
pub use Rattle.tuples.specs.Reads.{IsSelection}
pub use Rattle.tuples.specs.Versions.{of_shard, versions}
pub use Rattle.tuples.specs.Walking.{IsCheckSelection}
pub use Rattle.tuples.specs.declared.change.Change.{Change}
pub use Rattle.tuples.specs.declared.change.Condition.{Condition}
pub use Rattle.tuples.specs.declared.entry.Entry.{Entry}
pub use Rattle.tuples.specs.declared.entry.WriteId.{WriteId}
pub use Rattle.tuples.specs.declared.object.Userset.{Userset}
pub use Rattle.tuples.specs.declared.tuple.Tuple.{Tuple}
