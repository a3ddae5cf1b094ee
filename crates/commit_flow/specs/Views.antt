-- What is seen of a write flow's phase.
use Rattle.std.specs.Prelude.{ℕ, Bool, false, List, [], ◌∷◌, ◌++◌, map, Option, Some, None}
use Rattle.tuples.specs.declared.entry.WriteId.{WriteId}
use Rattle.tuples.specs.Writes.{WriteValue}
use Rattle.decisions.specs.Values.{BatchValue, IntentValue, TicketValue, VoteValue}
use Rattle.decisions.specs.Standing.{DecidedValue}
use Rattle.decisions.specs.declared.held.Held.{Held}
use Rattle.decisions.specs.declared.held.Held.TheVariants.{Ticket, Vote as held_vote}
use Rattle.names.specs.declared.call_name.CallName.{CallName}
use Rattle.names.specs.declared.call_name.CallName.TheVariants as names
use Rattle.calls.specs.declared.progress.Progress.{Progress}
use Rattle.calls.specs.declared.progress.Progress.TheVariants.{Next, Ended}
use Rattle.commit_flow.specs.declared.end.WriteEnd.{WriteEnd}
use Rattle.commit_flow.specs.declared.end.WriteEnd.TheVariants.{Wrote, Refused, Cancelled}
use Rattle.commit_flow.specs.declared.load.Load.{Load}
use Rattle.commit_flow.specs.declared.phase.Preparing.{Preparing}
use Rattle.commit_flow.specs.declared.phase.Voting.{Voting}
use Rattle.commit_flow.specs.declared.phase.Leaving.{Leaving}
use Rattle.commit_flow.specs.declared.phase.Ready.{Ready}
use Rattle.commit_flow.specs.declared.phase.Ready.TheVariants as ready
use Rattle.commit_flow.specs.declared.phase.Out.{Out}
use Rattle.commit_flow.specs.declared.phase.Out.TheVariants as out
use Rattle.commit_flow.specs.WriteHolds.{HeldTicket, Way, WriteAwaited, WriteHolds, nothing_begun, onward, outward}
use Rattle.commit_flow.specs.WriteHolds as waits

-- A write flow as its callers see it: the write, until a call takes it; what it holds; the shard that is caught up and prepares next; whether the node
-- that was full for the next call, or for the one that is out, was flushed for it; the call that is out; and how it ended.
pub record WriteView : Type 0 where
  pub write : Option WriteValue
  pub holds : WriteHolds
  pub caught : Option ℕ
  pub flushed : Bool
  pub awaited : Option WriteAwaited
  pub ended : Option WriteEnd

abbrev pub ticket_value : ℕ × TicketValue → HeldTicket
ticket_value t = record { shard = t.0; id = t.1.id; epoch = t.1.epoch }

abbrev pub tickets_of : Load → List HeldTicket
tickets_of load = map ticket_value load.tickets.items

-- what an undecided write holds on its way to the decision
abbrev pub holds_onward : WriteId → Option IntentValue → List HeldTicket → List VoteValue → Option BatchValue → WriteHolds
holds_onward id intent tickets votes batch = record { way = onward; id = Some id; intent = intent; tickets = tickets; votes = votes; decided = None; batch = batch; verdict = None }

abbrev pub holds_preparing : Preparing → Option BatchValue → WriteHolds
holds_preparing p batch = holds_onward p.intent.write.id (Some p.intent) (tickets_of p.load) p.load.votes.items batch

abbrev pub holds_voting : Voting → List HeldTicket → WriteHolds
holds_voting v tickets = holds_onward v.intent.write.id (Some v.intent) (tickets ++ tickets_of v.load) v.load.votes.items None

-- what a decided write holds
abbrev pub holds_decided : WriteId → Option DecidedValue → WriteHolds
holds_decided id decided = record { way = onward; id = Some id; intent = None; tickets = []; votes = []; decided = decided; batch = None; verdict = None }

-- the ticket that was to become the next vote
abbrev pub in_hand : Option (ℕ × TicketValue) → List HeldTicket
in_hand None = []
in_hand (Some t) = ticket_value t ∷ []

-- what a write that goes out holds
abbrev pub holds_leaving : Leaving → Option IntentValue → List HeldTicket → List VoteValue → Option WriteId → WriteHolds
holds_leaving l intent tickets votes verdict = record {
  way = outward l.met;
  id = Some l.id;
  intent = intent;
  tickets = tickets ++ (in_hand l.hand ++ map ticket_value l.tickets.items);
  votes = votes ++ l.votes.items;
  decided = None;
  batch = None;
  verdict = verdict;
}

-- what a shard gave, among the tickets or the votes
abbrev pub as_tickets : ℕ → Held → List HeldTicket
as_tickets s (Ticket t) = ticket_value (s, t) ∷ []
as_tickets s (held_vote v) = []

abbrev pub as_votes : Held → List VoteValue
as_votes (Ticket t) = []
as_votes (held_vote v) = v ∷ []

-- where a write that has ended was heading
abbrev pub way_to : WriteEnd → Way
way_to (Wrote place) = onward
way_to (Refused e) = outward (Some e)
way_to Cancelled = outward None

-- one that has ended holds nothing
abbrev pub holds_ended : WriteEnd → WriteHolds
holds_ended end = record nothing_begun { way = way_to end }

abbrev pub holds_ready : Ready → WriteHolds
holds_ready (ready.Begin write load) = nothing_begun
holds_ready (ready.CatchUp p c) = holds_preparing p c.batch
holds_ready (ready.Prepare p again) = holds_preparing p None
holds_ready (ready.FlushToPrepare p) = holds_preparing p None
holds_ready (ready.Vote v t) = holds_voting v (ticket_value (v.shard, t) ∷ [])
holds_ready (ready.FlushToVote v t) = holds_voting v (ticket_value (v.shard, t) ∷ [])
holds_ready (ready.Decide b again) = holds_onward b.intent.write.id (Some b.intent) [] b.votes None
holds_ready (ready.FlushToDecide b) = holds_onward b.intent.write.id (Some b.intent) [] b.votes None
holds_ready (ready.Outcome id d) = holds_decided id (Some d)
holds_ready (ready.FlushToOutcome id d) = holds_decided id (Some d)
holds_ready (ready.Abort i l) = holds_leaving l (Some i) [] [] None
holds_ready (ready.Inquire l) = holds_leaving l None [] [] None
holds_ready (ready.DropWrite v l s h) = holds_leaving l None (as_tickets s h) (as_votes h) (Some v.id)

abbrev pub holds_out : Out → WriteHolds
holds_out (out.Begin load) = nothing_begun
holds_out (out.CatchUp p c) = holds_preparing p c.held.batch
holds_out (out.Prepare p again) = holds_onward p.id None (tickets_of p.load) p.load.votes.items None
holds_out (out.FlushToPrepare p) = holds_preparing p None
holds_out (out.Vote v) = holds_voting v []
holds_out (out.FlushToVote v t) = holds_voting v (ticket_value (v.shard, t) ∷ [])
holds_out (out.Decide id again) = holds_onward id None [] [] None
holds_out (out.FlushToDecide b) = holds_onward b.intent.write.id (Some b.intent) [] b.votes None
holds_out (out.Outcome id) = holds_decided id None
holds_out (out.FlushToOutcome id d) = holds_decided id (Some d)
holds_out (out.Abort l) = holds_leaving l None [] [] None
holds_out (out.Inquire l) = holds_leaving l None [] [] None
holds_out (out.DropWrite l) = holds_leaving l None [] [] None

-- the write, before it is begun
abbrev pub write_of : Ready → Option WriteValue
write_of (ready.Begin write load) = Some write
write_of r = None

-- the call that is out
abbrev pub awaited_of : Out → WriteAwaited
awaited_of (out.Begin load) = waits.begin
awaited_of (out.CatchUp p c) = waits.catch_up c.awaited
awaited_of (out.Prepare p again) = waits.prepare p.shard again p.participants
awaited_of (out.FlushToPrepare p) = waits.flush_to_prepare p.shard
awaited_of (out.Vote v) = waits.vote v.shard
awaited_of (out.FlushToVote v t) = waits.flush_to_vote v.shard
awaited_of (out.Decide id again) = waits.decide again
awaited_of (out.FlushToDecide b) = waits.flush_to_decide
awaited_of (out.Outcome id) = waits.outcome
awaited_of (out.FlushToOutcome id d) = waits.flush_to_outcome
awaited_of (out.Abort l) = waits.abort
awaited_of (out.Inquire l) = waits.inquire
awaited_of (out.DropWrite l) = waits.drop_write

-- the shard that is caught up, and prepares its part next
abbrev pub caught_of : Ready → Option ℕ
caught_of (ready.Prepare p again) = Some p.shard
caught_of (ready.FlushToPrepare p) = Some p.shard
caught_of r = None

-- the same while a call is out
abbrev pub caught_out : Out → Option ℕ
caught_out (out.FlushToPrepare p) = Some p.shard
caught_out o = None

-- whether the node of the next call was flushed for it
abbrev pub flushed_of : Ready → Bool
flushed_of (ready.Prepare p again) = again
flushed_of (ready.Decide b again) = again
flushed_of r = false

-- the same for the call that is out
abbrev pub flushed_out : Out → Bool
flushed_out (out.Prepare p again) = again
flushed_out (out.Decide id again) = again
flushed_out o = false

-- a write that was begun, between two calls, if no shard is to prepare and no node was flushed
abbrev pub at_rest : WriteHolds → WriteView
at_rest holds = record { write = None; holds = holds; caught = None; flushed = false; awaited = None; ended = None }

-- what is seen of each phase, and after a reply
abbrev pub view_ready : Ready → WriteView
view_ready r = record { write = write_of r; holds = holds_ready r; caught = caught_of r; flushed = flushed_of r; awaited = None; ended = None }

abbrev pub view_out : Out → WriteView
view_out o = record { write = None; holds = holds_out o; caught = caught_out o; flushed = flushed_out o; awaited = Some (awaited_of o); ended = None }

abbrev pub view_ended : WriteEnd → WriteView
view_ended end = record { write = None; holds = holds_ended end; caught = None; flushed = false; awaited = None; ended = Some end }

abbrev pub view_of : Progress Ready WriteEnd → WriteView
view_of (Next r) = view_ready r
view_of (Ended end) = view_ended end

-- the name of its next call
abbrev pub name_ready : Ready → CallName
name_ready (ready.Begin write load) = names.Begin
name_ready (ready.CatchUp p c) = c.next
name_ready (ready.Prepare p again) = names.StagePrepare
name_ready (ready.FlushToPrepare p) = names.Flush
name_ready (ready.Vote v t) = names.Vote
name_ready (ready.FlushToVote v t) = names.Flush
name_ready (ready.Decide b again) = names.Decide
name_ready (ready.FlushToDecide b) = names.Flush
name_ready (ready.Outcome id d) = names.Outcome
name_ready (ready.FlushToOutcome id d) = names.Flush
name_ready (ready.Abort i l) = names.Abort
name_ready (ready.Inquire l) = names.Inquire
name_ready (ready.DropWrite v l s h) = names.DropWrite
