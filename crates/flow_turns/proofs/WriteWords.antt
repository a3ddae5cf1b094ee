-- The words that the proofs of a write's turns name, each from its home.
pub use Rattle.calls.proofs.Belonging.{answered_belongs}
pub use Rattle.calls.specs.Asking.{Answered}
pub use Rattle.calls.specs.Belonging.{IsReplyTo}
pub use Rattle.calls.specs.Views.{NodeView, devices_of}
pub use Rattle.calls.specs.declared.call.NodeCall.TheVariants.{Coordinator, Coordinator as of_coordinator, Shard as of_shard}
pub use Rattle.calls.specs.declared.reply.Reply.TheVariants.{Coordinator as from_coordinator, Shard as from_shard}
pub use Rattle.calls.specs.declared.reply.Reply.{Reply}
pub use Rattle.catch_up.specs.Held.{CatchUpValue}
pub use Rattle.commit_flow.specs.Answering.{CatchUpGives, GivesTo, GoesOn, GoesOut, ProgressGives}
pub use Rattle.commit_flow.specs.Views.{WriteView, at_rest, ticket_value, view_ended}
pub use Rattle.commit_flow.specs.Writing.{HasShard, IsOnItsWay}
pub use Rattle.commit_flow.specs.declared.end.WriteEnd.TheVariants.{Refused}
pub use Rattle.decisions.specs.Coordinators.{CoordinatorView, without_id}
pub use Rattle.decisions.specs.Standing.{DecidedValue}
pub use Rattle.decisions.specs.Values.{BatchValue, IntentValue, IsIntent, TicketValue, VoteValue}
pub use Rattle.device.specs.Device.{State, left}
pub use Rattle.flow_turns.proofs.Flushed.{down_coordinator_fails, down_shard_fails, refused_fails}
pub use Rattle.flow_turns.proofs.Made.{FailsQuietly, IsQuietlyMade, fails_by, inside_by, same_devices, shows_nodes, still_given, still_made, still_named, still_of, still_sound, still_within}
pub use Rattle.flow_turns.proofs.Standing.{is_seen, runs_now, shard_is_seen, shard_is_up}
pub use Rattle.flow_turns.specs.StoreCalls.{IsCalled, IsMade}
pub use Rattle.flow_turns.specs.StoreTurns.{SlotTurns}
pub use Rattle.flow_turns.specs.WriteTurns.{TurnsBy}
pub use Rattle.flow_turns.specs.WritesSeen.{asked_of, shown, shown_until, told_end, told_of}
pub use Rattle.laws.specs.Machines.{Machine}
pub use Rattle.laws.specs.Nodes.{NodeName, Nodes, coordinator, down, shard, up}
pub use Rattle.records.specs.Coordinators.{end_of}
pub use Rattle.records.specs.Replays.{greatest_number}
pub use Rattle.records.specs.declared.record.Record.{Record}
pub use Rattle.refusal.specs.declared.refusal.Refusal.TheVariants.{Collected, Down, Full, Future, NoMemory, Unsure}
pub use Rattle.refusal.specs.declared.refusal.Refusal.{Refusal}
pub use Rattle.shard.specs.Shards.{ShardView, memory}
pub use Rattle.stores.proofs.FlowEnds.{flows_end}
pub use Rattle.stores.specs.AbortLaws.{IsUndecidedFlow}
pub use Rattle.stores.specs.Causes.{Calls, HasItsCause, TakesMemory}
pub use Rattle.stores.specs.Flows.{Asked, HeldTicket, WriteHolds, id_of, onward, outward, to_write, writing}
pub use Rattle.stores.specs.Held.{IfHeld, IsRight, IsRightBatch, IsRightTicket, IsRightWrite, own_write}
pub use Rattle.stores.specs.Moments.{Moment, Running, ended, flow_at, replaced}
pub use Rattle.stores.specs.Stands.{IsHorizonIn, Stands}
pub use Rattle.stores.specs.Stores.{FlowView, NamesHorizon, ShowsFlow, StandsOver, Store, stops}
pub use Rattle.tuples.specs.Parts.{part, takes_part}
pub use Rattle.tuples.specs.Writes.{WriteValue}
pub use Rattle.tuples.specs.declared.change.Change.{Change}
pub use Rattle.tuples.specs.declared.change.Condition.{Condition}
pub use Rattle.tuples.specs.declared.change.Want.TheVariants.{Absent, Exists, NotAfter}
pub use Rattle.tuples.specs.declared.change.Want.{Want}
pub use Rattle.tuples.specs.declared.entry.Entry.{Entry}
pub use Rattle.tuples.specs.declared.entry.WriteId.{WriteId}
pub use Rattle.turns.proofs.ShardSeam.{knows}
pub use Rattle.turns.specs.Promises.{Ran}
pub use Rattle.turns.specs.QuietTurns.{HoldsLess, ending, going_on, with_call}
pub use Rattle.turns.specs.Runs.{Told, Turns, goes_on, refuses}
pub use Rattle.turns.specs.SeamLaws.{IsSeen, told_unless}
pub use Rattle.turns.specs.ShardSeamLaws.{IsHolder, behind_shard, held_ticket}
