-- The words that the proofs of this crate name, each from its home.
pub use Rattle.answer_flow.specs.CheckViews.{at_rest, begins_at, catch_up, CheckFlowValue, CheckView, heads, read}
pub use Rattle.answer_flow.specs.ReadViews.{ReadFlowValue, ReadView}
pub use Rattle.answer_flow.specs.WatchViews.{WatchFlowValue}
pub use Rattle.calls.specs.Asking.{Refuses}
pub use Rattle.calls.specs.Belonging.{IsReplyTo}
pub use Rattle.calls.specs.declared.call.NodeCall.{NodeCall}
pub use Rattle.calls.specs.declared.call.NodeCall.TheVariants.{Coordinator, Shard}
pub use Rattle.calls.specs.declared.call.ShardCall.{ShardCall}
pub use Rattle.calls.specs.declared.call.ShardCall.TheVariants.{Checkpoint, Flush}
pub use Rattle.calls.specs.declared.reply.Reply.{Reply}
pub use Rattle.calls.specs.declared.reply.Reply.TheVariants.{Coordinator as from_coordinator}
pub use Rattle.calls.specs.declared.progress.Progress.{Progress}
pub use Rattle.commit_flow.specs.Flows.{WriteFlowValue}
pub use Rattle.decisions.specs.Flows.{exact, Freshness}
pub use Rattle.flights.specs.Serving.{Serves}
pub use Rattle.tuples.proofs.Lists.{prefix_length}
pub use Rattle.flow_ties.proofs.ToldChecks.{checks_at_rest_have_reason}
pub use Rattle.flow_ties.proofs.ToldReads.{reads_at_rest_have_reason}
pub use Rattle.flow_ties.specs.Cares.{IsCareOf}
pub use Rattle.flow_ties.specs.Checks.{CheckHasReason, IsCheckOf}
pub use Rattle.flow_ties.specs.Reads.{IsReadOf, ReadHasReason}
pub use Rattle.flow_ties.specs.Refusing.{HasReason, Notices}
pub use Rattle.flow_ties.specs.Telling.{IsAsAsked, IsTold}
pub use Rattle.flow_ties.specs.Watches.{IsWatchOf, WatchHasReason}
pub use Rattle.flow_ties.specs.Writes.{RefusesAsTold, TellsWriter}
pub use Rattle.locked.specs.Answering.{IsBeyond, IsFresh, LiesBeyond, Narrows}
pub use Rattle.locked.specs.Opening.{ShardsRest}
pub use Rattle.locked.specs.Turning.{HandsWhatIsSeen, Turns}
pub use Rattle.locked.specs.Writing.{IsKnownWriteOf}
pub use Rattle.names.specs.declared.call_name.CallName.{CallName}
pub use Rattle.published.specs.Known.{Known}
pub use Rattle.records.specs.Identity.{coordinator_number, Identity}
pub use Rattle.refusal.specs.declared.refusal.Refusal.{Refusal}
pub use Rattle.refusal.specs.declared.refusal.Refusal.TheVariants.{Damaged, NoMemory}
pub use Rattle.sides.specs.CoordinatorSides.{IsTried}
pub use Rattle.sides.specs.Sides.{IsLater}
pub use Rattle.ties.specs.ShardTies.{RowsAnywhere}
pub use Rattle.ties.specs.Ties.{Attempt}
pub use Rattle.tuples.specs.Limits.{max_watched}
pub use Rattle.tuples.specs.Writes.{WriteValue}
pub use Rattle.tuples.specs.declared.entry.Entry.{Entry}
pub use Rattle.tuples.specs.declared.object.Userset.{Userset}
pub use Rattle.tuples.specs.declared.tupleset.Tupleset.{Tupleset}
pub use Rattle.tuples.specs.declared.user.User.{User}
