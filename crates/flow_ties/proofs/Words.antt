-- The words that the proofs of this crate name, each from its home.
pub use Rattle.answer_flow.specs.CheckViews.{at_rest, catch_up, catch_up_call, CheckAwaited, checked, CheckStep, CheckView, ended, flush, flush_call, heads, heads_call, read, read_call, refused}
pub use Rattle.answer_flow.specs.Checking.{AsksFor, CatchesUp, CatchUpGives, Continues, FlushGives, GivesTo, HeadsGive, ProgressGives, ReadGives, RowsGive}
pub use Rattle.answer_flow.specs.ReadViews.{ReadAwaited, ReadStep, ReadView, selected}
pub use Rattle.answer_flow.specs.Reading.{Finishes}
pub use Rattle.answer_flow.specs.WatchViews.{batch, listed, waiting, WatchStep, WatchView, with_heads}
pub use Rattle.answer_flow.specs.Watching.{BatchGives, heartbeat}
pub use Rattle.calls.specs.Asking.{MayBeMade}
pub use Rattle.calls.specs.Belonging.{IsReplyTo}
pub use Rattle.calls.specs.Refusing.{error_of, HasTold, refused_by}
pub use Rattle.calls.specs.declared.call.CoordinatorCall.{CoordinatorCall}
pub use Rattle.calls.specs.declared.call.NodeCall.{NodeCall}
pub use Rattle.calls.specs.declared.call.NodeCall.TheVariants.{Coordinator, Shard}
pub use Rattle.calls.specs.declared.call.ShardCall.{ShardCall}
pub use Rattle.calls.specs.declared.reply.Reply.{Reply}
pub use Rattle.calls.specs.declared.reply.Reply.TheVariants.{Coordinator as from_coordinator, Shard as from_shard}
pub use Rattle.catch_up.specs.CatchingUp.{Asks, Gives}
pub use Rattle.catch_up.specs.Held.{Awaited, CatchUpCallValue, CatchUpValue, decisions, flushing, learned, learning}
pub use Rattle.catch_up.specs.declared.caught.Progress.{Progress}
pub use Rattle.catch_up.specs.declared.caught.Progress.TheVariants.{Next, Refused, Refused as is_refused, There}
pub use Rattle.commit_flow.specs.Answering.{end_of, GoesToDrop, NotDecidedGives}
pub use Rattle.commit_flow.specs.Views.{view_ended, WriteView}
pub use Rattle.commit_flow.specs.WriteHolds.{onward, outward, Way, WriteAwaited, WriteHolds}
pub use Rattle.commit_flow.specs.Writing.{AsksCoordinator, AsksShard}
pub use Rattle.commit_flow.specs.declared.end.WriteEnd.TheVariants.{Cancelled, Wrote}
pub use Rattle.coordinator.specs.declared.telling.Inquiry.{Inquiry}
pub use Rattle.coordinator.specs.declared.telling.Inquiry.TheVariants.{Abort as is_aborted, Commit, Undecided}
pub use Rattle.coordinator.specs.declared.telling.Outcome.TheVariants.{Kept, Later, Unsure as is_unsure}
pub use Rattle.decisions.specs.Flows.{at_least, CheckHolds, exact, Freshness, HeadsHeld, latest, no_heads, nothing_read, ReadHolds}
pub use Rattle.decisions.specs.Standing.{HeadsValue}
pub use Rattle.decisions.specs.Values.{BatchValue, IntentValue, VoteValue}
pub use Rattle.flow_ties.specs.Cares.{TellsCare}
pub use Rattle.flow_ties.specs.Checks.{HoldsWalk, IsCheckOf, IsMembershipAt, IsTooFar}
pub use Rattle.flow_ties.specs.Reads.{AreRowsAt}
pub use Rattle.flow_ties.specs.Refusing.{HasReason, TellsReach}
pub use Rattle.flow_ties.specs.Telling.{IsAsAsked, IsHeld, IsTold}
pub use Rattle.flow_ties.specs.Watches.{AreEventsTo}
pub use Rattle.flow_ties.specs.Writes.{IsWrittenAt, RefusesAsTold}
pub use Rattle.laws.proofs.TupleLists.{has_or_not}
pub use Rattle.laws.proofs.Walk.{goes_on, one_shard_is_asked}
pub use Rattle.laws.specs.ShardLaws.{AreOfLog}
pub use Rattle.refusal.specs.declared.refusal.Refusal.{Refusal as AnyRefusal, Refusal}
pub use Rattle.refusal.specs.declared.refusal.Refusal.TheVariants.{Full, Future, NoMemory, Unsure}
pub use Rattle.shard.specs.declared.replies.ReadReply.{ReadReply}
pub use Rattle.shard.specs.declared.replies.ReadReply.TheVariants.{Behind, Rows}
pub use Rattle.shard.specs.declared.replies.VoteReply.TheVariants.{Later as votes_later, No, Yes}
pub use Rattle.ties.specs.TellingLaws.{IsBatchOf}
pub use Rattle.tuples.specs.Checking.{holding}
pub use Rattle.tuples.specs.Limits.{max_walked}
pub use Rattle.tuples.specs.Parts.{shard_of}
pub use Rattle.tuples.specs.Reads.{IsSelection}
pub use Rattle.tuples.specs.Walking.{IsCheckSelection}
pub use Rattle.tuples.specs.Watching.{events_from, Placed}
pub use Rattle.tuples.specs.Writes.{WriteValue}
pub use Rattle.tuples.specs.declared.entry.Entry.{Entry}
pub use Rattle.tuples.specs.declared.entry.WriteId.{WriteId}
pub use Rattle.tuples.specs.declared.object.Userset.{Userset}
pub use Rattle.tuples.specs.declared.tuple.Tuple.{Tuple}
pub use Rattle.tuples.specs.declared.tupleset.Tupleset.{Tupleset}
pub use Rattle.tuples.specs.declared.tupleset.Tupleset.TheVariants.{Key, OfObject, OfUser}
pub use Rattle.tuples.specs.declared.user.User.{User}
