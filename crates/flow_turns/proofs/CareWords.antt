-- The words that the proofs of a care's turns name, each from its home.
pub use Rattle.calls.specs.Asking.{Answered}
pub use Rattle.calls.specs.Names.{name_of}
pub use Rattle.calls.specs.Views.{NodeView}
pub use Rattle.calls.specs.declared.call.CoordinatorCall.TheVariants.{Heads}
pub use Rattle.calls.specs.declared.call.NodeCall.TheVariants.{Coordinator as of_coordinator, Shard as of_shard}
pub use Rattle.calls.specs.declared.call.NodeCall.{NodeCall}
pub use Rattle.calls.specs.declared.reply.Reply.TheVariants.{Coordinator as from_coordinator, Shard as from_shard}
pub use Rattle.calls.specs.declared.reply.Reply.{Reply}
pub use Rattle.care_flow.proofs.Naming.{whichever_next}
pub use Rattle.care_flow.specs.Cares.{NextCall}
pub use Rattle.care_flow.specs.CatchUps.{AsksToCatchUp, CatchUpGives, on_its_way}
pub use Rattle.care_flow.specs.Ends.{ended_by}
pub use Rattle.care_flow.specs.Flushing.{FlushView, Gives, flush}
pub use Rattle.care_flow.specs.Views.{out, over, ready}
pub use Rattle.care_flow.specs.declared.care.CareFlow.TheVariants.{Collect, Flush, Learn, Raise, Resolve}
pub use Rattle.care_flow.specs.declared.care.CareFlow.{CareFlow}
pub use Rattle.care_flow.specs.declared.end.CareEnd.TheVariants.{Done, Refused}
pub use Rattle.care_flow.specs.declared.end.CareEnd.{CareEnd}
pub use Rattle.catch_up.specs.Held.{CatchUpCallValue, CatchUpValue}
pub use Rattle.catch_up.specs.declared.caught.Progress.TheVariants.{Next, Refused as is_refused, There}
pub use Rattle.catch_up.specs.declared.caught.Progress.{Progress}
pub use Rattle.decisions.specs.Flows.{HeadsHeld, no_heads}
pub use Rattle.decisions.specs.Values.{BatchValue, HeadsValue}
pub use Rattle.device.specs.Device.{State, left}
pub use Rattle.flow_turns.proofs.Asked.{heads_told}
pub use Rattle.flow_turns.proofs.CaughtUp.{CatchUpComes, IsCatchingUp, caught_up, same_way}
pub use Rattle.flow_turns.proofs.Flushed.{coordinator_flushed, shard_flushed}
pub use Rattle.flow_turns.proofs.Made.{FailsQuietly, IsQuietlyMade, still_of}
pub use Rattle.flow_turns.proofs.Turned.{Runs, answers, fails_with, the_flow}
pub use Rattle.flow_turns.specs.CareTurns.{in_slot, shown_care, shows, tells}
pub use Rattle.flow_turns.specs.StoreCalls.{FitsItsTypes, IsCalled, called}
pub use Rattle.flow_turns.specs.StoreTurns.{SlotTurns, TurnRuns}
pub use Rattle.laws.specs.Machines.{Machine}
pub use Rattle.laws.specs.Nodes.{NodeName, Nodes, coordinator, shard}
pub use Rattle.names.specs.declared.call_name.CallName.{CallName}
pub use Rattle.records.specs.declared.record.Record.{Record}
pub use Rattle.refusal.specs.declared.refusal.Refusal.TheVariants.{Full, NoMemory, Unsure}
pub use Rattle.refusal.specs.declared.refusal.Refusal.{Refusal}
pub use Rattle.stores.specs.Causes.{Calls, HasItsCause, LetsLearn, TakesMemory}
pub use Rattle.stores.specs.Flows.{Asked, Holds}
pub use Rattle.stores.specs.Held.{AreHeldHeads, AreRightHeads, IsRight}
pub use Rattle.stores.specs.Moments.{Moment, Running}
pub use Rattle.stores.specs.Replies.{done}
pub use Rattle.stores.specs.Stands.{Stands}
pub use Rattle.stores.specs.Stores.{StandsOver, Store, stops}
pub use Rattle.turns.proofs.CoordinatorCalls.{right_heads}
pub use Rattle.turns.proofs.QuietTurns.{calls_on}
pub use Rattle.turns.specs.QuietTurns.{batch_of, behind_call, ending, going_on, with_call}
