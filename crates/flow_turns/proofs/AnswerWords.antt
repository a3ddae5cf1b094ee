-- The words that the proofs of an answer's turns name, each from its home.
pub use Rattle.answer_flow.specs.ReadViews.{ReadView, at_rest, ended, heads, heads_call, waiting}
pub use Rattle.answer_flow.specs.Reading.{GivesTo}
pub use Rattle.calls.specs.Asking.{Answered}
pub use Rattle.calls.specs.Views.{NodeView}
pub use Rattle.calls.specs.declared.call.NodeCall.TheVariants.{Coordinator as of_coordinator, Shard as of_shard}
pub use Rattle.calls.specs.declared.call.NodeCall.{NodeCall}
pub use Rattle.calls.specs.declared.reply.Reply.TheVariants.{Coordinator as from_coordinator, Shard as from_shard}
pub use Rattle.calls.specs.declared.reply.Reply.{Reply}
pub use Rattle.catch_up.specs.declared.caught.Progress.TheVariants.{Next, Refused as is_refused, There}
pub use Rattle.catch_up.specs.declared.caught.Progress.{Progress}
pub use Rattle.decisions.specs.Coordinators.{heads_of}
pub use Rattle.decisions.specs.Flows.{Freshness}
pub use Rattle.decisions.specs.Values.{BatchValue, HeadsValue}
pub use Rattle.device.specs.Device.{State, left}
pub use Rattle.flow_turns.proofs.Asked.{heads_told}
pub use Rattle.flow_turns.proofs.CaughtUp.{CatchUpComes, IsCatchingUp}
pub use Rattle.flow_turns.proofs.Flushed.{coordinator_flushed}
pub use Rattle.flow_turns.proofs.Made.{FailsQuietly, IsQuietlyMade, still_of}
pub use Rattle.flow_turns.proofs.Standing.{some_coordinator}
pub use Rattle.flow_turns.proofs.Turned.{fails_with, goes, held_on, refused_by, runs, the_flow}
pub use Rattle.flow_turns.specs.AnswerTurns.{shown_answer}
pub use Rattle.flow_turns.specs.ReadTurns.{read_tells}
pub use Rattle.flow_turns.specs.StoreCalls.{FitsItsTypes, IsCalled, called}
pub use Rattle.flow_turns.specs.StoreTurns.{SlotTurns, TurnRuns}
pub use Rattle.laws.specs.Machines.{Machine}
pub use Rattle.laws.specs.Nodes.{NodeName, Nodes, coordinator, shard}
pub use Rattle.records.specs.declared.record.Record.{Record}
pub use Rattle.refusal.specs.declared.refusal.Refusal.TheVariants.{Collected, Future, NoMemory, Unsure}
pub use Rattle.refusal.specs.declared.refusal.Refusal.{Refusal}
pub use Rattle.shard.specs.Shards.{memory}
pub use Rattle.shard.specs.declared.replies.ReadReply.TheVariants.{Behind, Rows}
pub use Rattle.shard.specs.declared.replies.ReadReply.{ReadReply}
pub use Rattle.stores.proofs.ShardStagesStands.{contained_from}
pub use Rattle.stores.specs.Causes.{Calls, CallsShard, HasItsCause, LetsLearn, TakesMemory}
pub use Rattle.stores.specs.Flows.{Asked, Holds, reading}
pub use Rattle.stores.specs.FlushLaws.{all_kept}
pub use Rattle.stores.specs.Held.{AreRightHeads, IfHeld, IsRight, IsRightBatch}
pub use Rattle.stores.specs.Moments.{Moment, Running}
pub use Rattle.stores.specs.Stores.{StandsOver, Store, stops}
pub use Rattle.tuples.specs.declared.tuple.Tuple.{Tuple}
pub use Rattle.tuples.specs.declared.tupleset.Tupleset.{Tupleset}
pub use Rattle.turns.proofs.CoordinatorCalls.{heads_have_cause, places_are_found, right_heads}
pub use Rattle.turns.proofs.QuietTurns.{calls_on}
pub use Rattle.turns.proofs.ShardSeam.{knows}
pub use Rattle.turns.specs.CoordinatorSeamLaws.{AsksAbove, AsksBelow}
pub use Rattle.turns.specs.QuietTurns.{batch_of, behind_call, ending, with_call}
pub use Rattle.turns.specs.Runs.{answered, refuses}
