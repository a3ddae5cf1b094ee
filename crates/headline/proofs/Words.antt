-- The words that the proofs of this crate name, each from its home.
pub use Rattle.calls.specs.Asking.{Answered, MayBeMade, Refuses}
pub use Rattle.calls.specs.Names.{node_of}
pub use Rattle.calls.specs.Views.{NodeView, devices_of}
pub use Rattle.calls.specs.declared.call.NodeCall.TheVariants.{Coordinator, Coordinator as of_coordinator, Shard, Shard as of_shard}
pub use Rattle.calls.specs.declared.call.NodeCall.{NodeCall}
pub use Rattle.calls.specs.declared.reply.Reply.TheVariants.{Coordinator as from_coordinator, Shard as from_shard}
pub use Rattle.calls.specs.declared.reply.Reply.{Reply}
pub use Rattle.care_flow.specs.Views.{over, ready}
pub use Rattle.care_flow.specs.declared.care.CareFlow.TheVariants.{Flush}
pub use Rattle.care_flow.specs.declared.care.CareFlow.{CareFlow}
pub use Rattle.care_flow.specs.declared.end.CareEnd.{CareEnd}
pub use Rattle.catch_up.specs.declared.caught.Progress.TheVariants.{Next, Refused, There}
pub use Rattle.catch_up.specs.declared.caught.Progress.{Progress}
pub use Rattle.cluster.specs.Nodes.{IsFound, IsRevived, Opens, Reopened}
pub use Rattle.cluster.specs.Openings.{AreOpened, IsOpenedOver}
pub use Rattle.cluster.specs.Runs.{TookAll}
pub use Rattle.cluster.specs.Steps.{AddsFlow, IsIdle}
pub use Rattle.cluster.specs.Worlds.{WorldView, flow_at, flow_count, index_of, node_at}
pub use Rattle.cluster.specs.declared.event.Event.{Event}
pub use Rattle.cluster.specs.declared.event.What.TheVariants.{Began, Ended}
pub use Rattle.cluster.specs.declared.event.What.{What}
pub use Rattle.cluster.specs.declared.flow.Flow.TheVariants.{Care, Check, Read, Watch, Write}
pub use Rattle.cluster.specs.declared.flow.Flow.{Flow}
pub use Rattle.cluster.specs.declared.flow.Writing.{Writing}
pub use Rattle.cluster.specs.declared.step.Step.TheVariants.{Cancel, Care as care_for, Restart, Start, Turn}
pub use Rattle.cluster.specs.declared.step.Step.{Step}
pub use Rattle.commit_flow.specs.Answering.{GivesTo}
pub use Rattle.commit_flow.specs.Flows.{seen_of}
pub use Rattle.commit_flow.specs.Views.{WriteView}
pub use Rattle.commit_flow.specs.Writing.{Asks}
pub use Rattle.commit_flow.specs.declared.end.WriteEnd.{WriteEnd}
pub use Rattle.coordinator.specs.declared.telling.Inquiry.TheVariants.{Commit, Undecided}
pub use Rattle.decisions.specs.Flows.{Freshness}
pub use Rattle.decisions.specs.Standing.{IsGivenOut}
pub use Rattle.decisions.specs.Values.{VerdictValue}
pub use Rattle.device.proofs.Moments.{leaves_nothing_else}
pub use Rattle.device.specs.Device.{HasFailed, Revived, State, left}
pub use Rattle.device.specs.declared.tear.Tear.{Tear}
pub use Rattle.flow_turns.proofs.Made.{inside_by, still_given, still_within}
pub use Rattle.flow_turns.proofs.Slots.{found_at}
pub use Rattle.flow_turns.specs.AnswerTurns.{asked_of, shown_answer}
pub use Rattle.flow_turns.specs.CareTurns.{shows as shows_care}
pub use Rattle.flow_turns.specs.CheckTurns.{check_of}
pub use Rattle.flow_turns.specs.ReadTurns.{read_of}
pub use Rattle.flow_turns.specs.Steps.{shown_flow}
pub use Rattle.flow_turns.specs.StoreCalls.{IsCalled, IsNamed, IsNode, KeepsMemory, ShowsMemory, called, shown}
pub use Rattle.flow_turns.specs.StoreTurns.{SlotTurns}
pub use Rattle.flow_turns.specs.WritesSeen.{shown_until, told_of}
pub use Rattle.headline.specs.Acts.{Acted, KeepsActs, numbered, steps_in}
pub use Rattle.headline.specs.Headline.{Lives}
pub use Rattle.headline.specs.ManyLives.{EndsOver, Life, LivesAll, stops_opening}
pub use Rattle.headline.specs.PastWrites.{IsPast}
pub use Rattle.headline.specs.Promised.{Keeps, RunsKeep, StepKeeps, StepsKeep, devices_at}
pub use Rattle.headline.specs.Shown.{IsShownFlow, IsShownSlot, Shows, named}
pub use Rattle.headline.specs.Told.{IsWholeStep, all_told, event_of, step_of}
pub use Rattle.journal.specs.Records.{Finds, LeavesBoth, found}
pub use Rattle.journal.specs.declared.refused.Bank.{Bank}
pub use Rattle.laws.proofs.CoordinatorStates.{coordinator_push}
pub use Rattle.laws.proofs.LessLeft.{less_rests}
pub use Rattle.laws.proofs.Lists.{slice_get_taken}
pub use Rattle.laws.proofs.MachineMoves.{kept_stay, moves_then}
pub use Rattle.laws.specs.LogLaws.{IsUnlisted}
pub use Rattle.laws.specs.Machines.{Machine, Move, Moves, append, cut, keep, raise}
pub use Rattle.laws.specs.Nodes.{CoordinatorKnows, IsOfRefusedOpening, IsThere, NodeName, NodeState, Nodes, coordinator, down, leaves, refused, shard, staged_of, up}
pub use Rattle.laws.specs.Shards.{ShardMeans}
pub use Rattle.laws.specs.Worlds.{Rests, coordinator_node, shard_node}
pub use Rattle.names.specs.declared.call_name.CallName.{CallName}
pub use Rattle.records.specs.Coordinators.{CoordinatorState, IsCoordinatorImage, coordinator_state}
pub use Rattle.records.specs.Identity.{Identity}
pub use Rattle.records.specs.Replays.{shard_state}
pub use Rattle.records.specs.declared.record.Record.TheVariants.{Epoch}
pub use Rattle.records.specs.declared.record.Record.{Record}
pub use Rattle.refusal.specs.declared.refusal.Refusal.TheVariants.{Damaged, Down, Full}
pub use Rattle.refusal.specs.declared.refusal.Refusal.{Refusal}
pub use Rattle.stores.proofs.FlowBegins.{alone}
pub use Rattle.stores.proofs.FlowEnds.{ran_before}
pub use Rattle.stores.proofs.ShardStagesStands.{contained_at}
pub use Rattle.stores.specs.Flows.{Asked, Holds, IsAsked, checking, id_of, nothing_held, reading, to_check, to_collect, to_flush, to_learn, to_raise, to_read, to_resolve, to_watch, to_write, watching}
pub use Rattle.stores.specs.Held.{WasGiven}
pub use Rattle.stores.specs.Moments.{Moment, Running, ended, flow_at as running_at, reopened, replaced}
pub use Rattle.stores.specs.Stands.{IsHorizonIn, Stands, at_shards}
pub use Rattle.stores.specs.Stores.{AreSound, FlowView, IsToldOver, NamesHorizon, RestsOver, ShowsSlot, StandsOver, Store, stops}
pub use Rattle.tuples.specs.Writes.{WriteValue}
pub use Rattle.tuples.specs.declared.entry.Entry.{Entry}
pub use Rattle.tuples.specs.declared.entry.WriteId.{WriteId}
pub use Rattle.tuples.specs.declared.object.Userset.{Userset}
pub use Rattle.tuples.specs.declared.tuple.Tuple.{Tuple}
pub use Rattle.turns.proofs.ClosedStoreRests.{closed_stores_rest}
pub use Rattle.turns.proofs.ShardPrepareSeam.{last_sync}
pub use Rattle.turns.specs.Promises.{ComesUp, OpensWithCause, Ran, RunsAll, RunsOne, events_of, stops_since}
pub use Rattle.turns.specs.ReopenLaws.{closed_nodes}
pub use Rattle.turns.specs.Reopens.{FoundHorizon}
pub use Rattle.turns.specs.RestartLaws.{cut_to}
pub use Rattle.turns.specs.Runs.{DecidesNothing, EndsAs, IfRunning, IsOfOpening, MayRise, OpensAs, Restarts, Told, Turns, answered, refuses, restart, turn}
