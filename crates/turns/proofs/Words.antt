-- The words that the proofs of this crate name, each from its home.
pub use Rattle.decisions.specs.Coordinators.{CoordinatorView, FindsAt, heads_of, kept_of, memory_of, without_id}
pub use Rattle.decisions.specs.Standing.{DecidedValue, HeadsValue, IsGivenOut, IsSettled}
pub use Rattle.decisions.specs.Values.{BatchValue, IntentValue}
pub use Rattle.device.proofs.Moments.{leaves_nothing_else}
pub use Rattle.device.specs.Device.{HasFailed, Leaves, Revived, State, left, left as device_left}
pub use Rattle.journal.specs.Records.{Finds, HasNoRoom, found}
pub use Rattle.laws.proofs.CoordinatorStates.{coordinator_image_push, coordinator_last, coordinator_push, end_is_length}
pub use Rattle.laws.proofs.EmptyStore.{empty_rests}
pub use Rattle.laws.proofs.LessLeft.{horizon_rises, less_rests, raised_means}
pub use Rattle.laws.proofs.Lists.{slice_get_taken}
pub use Rattle.laws.proofs.Locks.{doubts_apart, not_found}
pub use Rattle.laws.proofs.Logs.{log_taken}
pub use Rattle.laws.specs.CoordinatorLaws.{IsLearnedInAll, IsPreparedInAll}
pub use Rattle.laws.specs.Machines.{Machine, Makes, Move, Moves, append, cut, keep, raise}
pub use Rattle.laws.specs.Nodes.{CoordinatorKnows, IsGivenBy, IsOfRefusedOpening, IsThere, NodeName, NodeState, NodeTurns, Nodes, SameBut, ShardKnows, StandFor, coordinator, down, leaves, refused, shard, staged_of, up}
pub use Rattle.laws.specs.ShardLaws.{AreOfLog, IsUnlistedAbove}
pub use Rattle.laws.specs.Shards.{ShardMeans}
pub use Rattle.laws.specs.Worlds.{IsMeaning, Means, Rests, coordinator_node, shard_node}
pub use Rattle.records.specs.Coordinators.{CoordinatorState, IsCoordinatorImage, MayDecide, MayRaise, coordinator_from, coordinator_state, end_of}
pub use Rattle.records.specs.Format.{IsRecord}
pub use Rattle.records.specs.Replays.{Identity, IsShardImage, MayCome, ShardState, empty_shard, find_in_doubt, shard_from, shard_state, without}
pub use Rattle.records.specs.declared.record.PlacedId.{PlacedId}
pub use Rattle.records.specs.declared.record.Record.{Record}
pub use Rattle.records.specs.declared.record.Record.TheVariants.{Decision, Dropped, Epoch, Horizon, Learned, Prepare}
pub use Rattle.refusal.specs.declared.refusal.Refusal.{Refusal}
pub use Rattle.refusal.specs.declared.refusal.Refusal.TheVariants.{Collected, Down, Full, NoMemory, Unsure}
pub use Rattle.replay.proofs.Doubts.{find_put_same}
pub use Rattle.replay.proofs.States.{shard_from-append, shard_push}
pub use Rattle.shard.specs.Shards.{AskBelow, IsUp, ShardView, Stages, memory, opening, own_part, placed_ids_from}
pub use Rattle.stores.specs.AbortLaws.{IsUndecidedFlow, with_closed, with_verdict}
pub use Rattle.stores.specs.Causes.{Calls, CallsShard, HasItsCause, IsBelow, IsBusy, IsCause, IsCutOff, IsDown, IsFull, IsFuture, IsToLearn, LetsLearn, TakesMemory, WantsBelow}
pub use Rattle.stores.specs.CheckingLaws.{Walks}
pub use Rattle.stores.specs.DecidingLaws.{IsDecider, IsDeciding, StandsButFor, with_decision, with_write}
pub use Rattle.stores.specs.FlowLaws.{IsBegin, with_flow, with_intent, with_open}
pub use Rattle.stores.specs.Flows.{Asked, CheckHolds, Freshness, HeadsHeld, HeldTicket, HeldVote, Holds, RaiseHolds, ReadHolds, Resolved, WriteHolds, aborted, at_least, checking, collecting, committed, exact, flushing, id_of, latest, learning, learning as learns, named_by, onward, outward, place_of, raising, reading, resolving, to_check, to_collect, to_flush, to_learn, to_raise, to_read, to_resolve, to_watch, to_write, undecided, watching, writing}
pub use Rattle.stores.specs.FlushLaws.{FailsFlush, FlushesCoordinator, FlushesShard, all_kept}
pub use Rattle.stores.specs.Held.{AreHeldHeads, AreRightHeads, HoldsOf, IfHeld, IsOpen, IsRight, IsRightBatch, IsRightCheck, IsRightDecision, IsRightIntent, IsRightOwn, IsRightRaise, IsRightRead, IsRightResolve, IsRightResolved, IsRightSettled, IsRightTicket, IsRightVerdict, IsRightVote, IsRightWrite, IsStaged, WasGiven, own_write}
pub use Rattle.stores.specs.Moments.{Moment, Running, WasKept, begun, ended, flow_at, is_write, replaced}
pub use Rattle.stores.specs.NewStores.{only_opened, opened, opened_nodes, opening_of}
pub use Rattle.stores.specs.OpeningLaws.{OpensShard}
pub use Rattle.stores.specs.PrepareLaws.{IsPreparing}
pub use Rattle.stores.specs.RaisingLaws.{StagesHorizon}
pub use Rattle.stores.specs.ReadingLaws.{there_of}
pub use Rattle.stores.specs.Replies.{Agrees, Answer, IsAsWanted, IsPlaceOf, IsReadAnswer, IsResolved, IsWriteAnswer, done, wrote}
pub use Rattle.stores.specs.StagingLaws.{IsStaging, StagesAt, with_nodes}
pub use Rattle.stores.specs.Stands.{FlowsStand, HasSeenBelow, HeadsStand, IsHorizonIn, IsQuietFlow, Stands, at_shards}
pub use Rattle.stores.specs.Stores.{AreSound, Store, stops}
pub use Rattle.tuples.proofs.Examples.{numbered, three, viewed}
pub use Rattle.tuples.proofs.Lists.{slice_get_drop, slice_get_push}
pub use Rattle.tuples.specs.Checking.{AreOnce, holding}
pub use Rattle.tuples.specs.Log.{is_at, same_id}
pub use Rattle.tuples.specs.Parts.{part, shard_of, takes_part}
pub use Rattle.tuples.specs.Reads.{IsSelection}
pub use Rattle.tuples.specs.Walking.{IsCheckSelection}
pub use Rattle.tuples.specs.declared.change.Change.{Change}
pub use Rattle.tuples.specs.declared.change.Change.TheVariants.{Touch}
pub use Rattle.tuples.specs.declared.change.Condition.{Condition}
pub use Rattle.tuples.specs.declared.entry.Entry.{Entry}
pub use Rattle.tuples.specs.declared.entry.WriteId.{WriteId}
pub use Rattle.tuples.specs.declared.object.Userset.{Userset}
pub use Rattle.tuples.specs.declared.tuple.Tuple.{Tuple}
pub use Rattle.tuples.specs.declared.tupleset.Tupleset.{Tupleset}
pub use Rattle.tuples.specs.declared.tupleset.Tupleset.TheVariants.{Key}
pub use Rattle.tuples.specs.declared.user.User.{User}
pub use Rattle.tuples.specs.declared.user.User.TheVariants.{Set}
pub use Rattle.turns.specs.CoordinatorSeamLaws.{AsksAbove, AsksBelow}
pub use Rattle.turns.specs.Promises.{ComesUp, StopsBetween}
pub use Rattle.turns.specs.QuietTurns.{HoldsLess, IsQuietCall, behind_call, ending, going_on, with_batch, with_call}
pub use Rattle.turns.specs.RestartLaws.{IsReopenedCoordinator, IsReopenedShard, OpensCoordinator, RefusesCoordinator, cut_to}
pub use Rattle.turns.specs.Runs.{Decides, DecidesNothing, EndsAs, EndsQuietly, Event, IfRunning, IsCancelled, IsOfOpening, IsQuiet, IsRun, IsTurned, MayRise, Restarts, Step, Takes, Told, Turns, answered, began, came_up, cancel, goes_on, refuses, restart, start, told_by, turn}
pub use Rattle.turns.specs.SeamLaws.{IsSeen, behind, told_unless}
pub use Rattle.turns.specs.ShardOpeningLaws.{AreRevived}
pub use Rattle.turns.specs.ShardSeamLaws.{ShardIsSeen, StandsAndTurns, behind_shard}
