-- The words that the proofs of a node's calls name, each from its home.
pub use Rattle.calls.specs.Asking.{Answered}
pub use Rattle.calls.specs.Belonging.{IsOwed, IsReplyTo}
pub use Rattle.calls.specs.ShardAnswers.{Stays}
pub use Rattle.calls.specs.Views.{NodeView}
pub use Rattle.calls.specs.declared.call.CoordinatorCall.{CoordinatorCall}
pub use Rattle.calls.specs.declared.call.NodeCall.TheVariants.{Coordinator, Coordinator as of_coordinator, Shard, Shard as of_shard}
pub use Rattle.calls.specs.declared.call.NodeCall.{NodeCall}
pub use Rattle.calls.specs.declared.call.ShardCall.{ShardCall}
pub use Rattle.calls.specs.declared.reply.Reply.TheVariants.{Coordinator as from_coordinator, Shard as from_shard}
pub use Rattle.calls.specs.declared.reply.Reply.{Reply}
pub use Rattle.coordinator.specs.declared.raising.NotRaised.{NotRaised}
pub use Rattle.decisions.specs.Coordinators.{CoordinatorView, IsRunning, kept_of}
pub use Rattle.decisions.specs.Values.{BatchValue, HeadsValue, SettledValue, VerdictValue}
pub use Rattle.device.specs.Device.{State, left}
pub use Rattle.flow_turns.specs.Steps.{IsBegunThere, IsFullThere, shown_flow}
pub use Rattle.flow_turns.specs.StoreCalls.{IsCalled, IsMade, IsNode, called, shown}
pub use Rattle.journal.specs.Records.{HasNoRoom, found}
pub use Rattle.laws.specs.Machines.{Machine}
pub use Rattle.laws.specs.Nodes.{NodeName, NodeState, Nodes, StandFor, coordinator, down, leaves, refused, shard, staged_of, up}
pub use Rattle.laws.specs.Worlds.{shard_node}
pub use Rattle.records.specs.Coordinators.{CoordinatorState, coordinator_state, end_of}
pub use Rattle.records.specs.Identity.{Identity}
pub use Rattle.records.specs.declared.record.Record.TheVariants.{Horizon}
pub use Rattle.records.specs.declared.record.Record.{Record}
pub use Rattle.refusal.specs.declared.refusal.Refusal.TheVariants.{Collected, Down, Full, Future, NoMemory, Unsure}
pub use Rattle.refusal.specs.declared.refusal.Refusal.{Refusal}
pub use Rattle.shard.specs.Shards.{IsUp, ShardView, memory}
pub use Rattle.stores.proofs.FlowBegins.{alone}
pub use Rattle.stores.specs.Causes.{Calls, HasItsCause}
pub use Rattle.stores.specs.Flows.{Asked, Holds, IsAsked, nothing_held, to_raise, to_write}
pub use Rattle.stores.specs.Held.{IsRight, IsRightVerdict}
pub use Rattle.stores.specs.Moments.{Moment, Running, ended, flow_at, is_write, replaced}
pub use Rattle.stores.specs.Replies.{Agrees, Answer}
pub use Rattle.stores.specs.Stands.{IsHorizonIn, Stands}
pub use Rattle.stores.specs.Stores.{AreSound, FlowView, NamesHorizon, ShowsFlow, ShowsNodes, ShowsSlot, StandsOver, Store, stops}
pub use Rattle.tuples.specs.declared.entry.WriteId.{WriteId}
pub use Rattle.turns.proofs.ShardSeam.{elsewhere, here}
pub use Rattle.turns.specs.Promises.{HasDeviceCause, Ran, events_of}
pub use Rattle.turns.specs.QuietTurns.{IsAway, IsQuietCall, behind_call, ending, with_call}
pub use Rattle.turns.specs.Runs.{IfRunning, answered, goes_on, refuses, restart, start, told_by}
pub use Rattle.turns.specs.SeamLaws.{IsSeen, behind}
pub use Rattle.turns.specs.ShardSeamLaws.{ShardIsSeen, behind_shard}
