-- The words that the proofs of this crate name, each from its home.
pub use Rattle.away.specs.Aways.{lent_honest, lent_state}
pub use Rattle.away.specs.declared.away.Away.{Away}
pub use Rattle.calls.specs.Asking.{Answered, CoordinatorAnswers, Refuses, ShardAnswers}
pub use Rattle.calls.specs.CoordinatorAnswers.{AbortAnswers, BeginAnswers, CheckpointAnswers, DecideAnswers, FlushAnswers, HeadsAnswers, RaiseAnswers}
pub use Rattle.calls.specs.Opening.{CoordinatorOpens, ShardOpens}
pub use Rattle.calls.specs.Views.{coordinator, devices_of, NodeView, refused, shard}
pub use Rattle.calls.specs.declared.call.CoordinatorCall.{CoordinatorCall}
pub use Rattle.calls.specs.declared.call.CoordinatorCall.TheVariants.{Abort, Batch, Begin, Checkpoint, Decide, Flush, Heads, Inquire, Outcome, Raise}
pub use Rattle.calls.specs.declared.call.NodeCall.TheVariants.{Coordinator, Shard}
pub use Rattle.calls.specs.declared.call.ShardCall.{ShardCall}
pub use Rattle.calls.specs.declared.call.ShardCall.TheVariants.{Collect, DropWrite, Learn, Read, ReadForCheck, StagePrepare}
pub use Rattle.calls.specs.declared.lending.Flying.{Flying}
pub use Rattle.calls.specs.declared.reply.CoordinatorReply.{CoordinatorReply}
pub use Rattle.calls.specs.declared.reply.Reply.{Reply}
pub use Rattle.calls.specs.declared.reply.Reply.TheVariants.{Coordinator as from_coordinator, Shard as from_shard}
pub use Rattle.calls.specs.declared.reply.ShardReply.{ShardReply}
pub use Rattle.coordinator.specs.declared.decided.NotDecided.{NotDecided}
pub use Rattle.coordinator.specs.declared.raising.NotRaised.{NotRaised}
pub use Rattle.decisions.specs.Coordinators.{CoordinatorView, kept_of, memory_of}
pub use Rattle.decisions.specs.Standing.{DecidedValue}
pub use Rattle.decisions.specs.Values.{BatchValue, HeadsValue, IntentValue, SettledValue, VerdictValue, VoteValue}
pub use Rattle.device.specs.Device.{left, State}
pub use Rattle.journal.specs.Records.{View}
pub use Rattle.laws.specs.Worlds.{coordinator_node, shard_node}
pub use Rattle.published.specs.Known.{Known}
pub use Rattle.records.specs.Coordinators.{end_of}
pub use Rattle.records.specs.Replays.{Identity}
pub use Rattle.records.specs.declared.record.Record.{Record}
pub use Rattle.refusal.specs.declared.refusal.Refusal.{Refusal}
pub use Rattle.shard.specs.Shards.{ShardView}
pub use Rattle.sides.specs.CoordinatorSides.{AnsweredThere, IsSound, IsSoundThere, IsTiedThere, TellsBatch, TellsDecided, TellsFound, TellsHeads, TellsKept, tried_by}
pub use Rattle.sides.specs.Joining.{AreHeadsOf, behind_in, CoordinatorMayJoin, exactly, MayJoin}
pub use Rattle.sides.specs.Lending.{ComesBackIn, LandsIn, LandsRows, LendsIn, MayLandIn}
pub use Rattle.sides.specs.Reopening.{LogOpenedIn, LogReopens, LogRestartedIn, OpenedIn, RestartedIn, ShardReopens}
pub use Rattle.sides.specs.Sides.{AnsweredIn, IsOfShard, IsTiedIn, KnowsBoth, Side, TellsRows}
pub use Rattle.ties.proofs.Deciding.{beginnings_stay_tied}
pub use Rattle.ties.proofs.Landing.{landings_stay_tied}
pub use Rattle.ties.proofs.Opening.{tied_up_is_tied}
pub use Rattle.ties.proofs.ShardOpening.{shard_tied_up_is_tied}
pub use Rattle.ties.specs.DecidingLaws.{attempt}
pub use Rattle.ties.specs.ShardTies.{IsOpenedShardTied, IsShardTied, RowsAnywhere}
pub use Rattle.ties.specs.Ties.{Anywhere, Attempt, IsOpenedTied, IsTied, IsTiedUp}
pub use Rattle.tuples.specs.Writes.{WriteValue}
pub use Rattle.tuples.specs.declared.entry.Entry.{Entry}
pub use Rattle.tuples.specs.declared.entry.WriteId.{WriteId}
