-- The calls of a write flow, and what each reply makes of it.
use Rattle.std.specs.Prelude.{◌≡◌, ◌≢◌, ◌⊎◌, ◌<◌, ◌++◌, ℕ, Bool, true, false, List, [], ◌∷◌, Option, Some, None, Contains}
use Rattle.tuples.specs.Parts.{takes_part}
use Rattle.refusal.specs.declared.refusal.Refusal.{Refusal}
use Rattle.decisions.specs.Values.{IntentValue, TicketValue, VoteValue}
use Rattle.calls.specs.Asking.{MayAskCoordinator, MayAskShard}
use Rattle.calls.specs.declared.call.NodeCall.{NodeCall}
use Rattle.calls.specs.declared.call.NodeCall.TheVariants.{Coordinator, Shard}
use Rattle.calls.specs.declared.call.CoordinatorCall.{CoordinatorCall}
use Rattle.calls.specs.declared.call.CoordinatorCall.TheVariants as calls
use Rattle.calls.specs.declared.call.ShardCall.{ShardCall}
use Rattle.calls.specs.declared.call.ShardCall.TheVariants as shard_calls
use Rattle.catch_up.specs.Held.{decisions, flushing, learned, learning}
use Rattle.commit_flow.specs.Participants.{ArePartsOf}
use Rattle.commit_flow.specs.WriteHolds.{HeldTicket, WriteAwaited, WriteHolds, nothing_begun, onward, outward}
use Rattle.commit_flow.specs.WriteHolds as waits
use Rattle.commit_flow.specs.Views.{WriteView, as_tickets, as_votes, ticket_value}

-- it holds the intent of its write
abbrev pub HasIntent : WriteView → Type 0
HasIntent v = (i : IntentValue) × (v.holds.intent ≡ Some i) × (v.holds.id ≡ Some i.write.id)

-- on its way to the decision, which is not made yet: its intent is not spent
abbrev pub IsOnItsWay : WriteView → Type 0
IsOnItsWay v = (v.holds.way ≡ onward) × (v.holds.decided ≡ None) × HasIntent v

-- a shard is brought up to the place that was kept when its write was begun
abbrev pub IsCaughtUpTo : WriteView → ℕ → Type 0
IsCaughtUpTo v to = (i : IntentValue) × (v.holds.intent ≡ Some i) × (to ≡ i.kept)

-- on its way out
abbrev pub IsOnItsWayOut : WriteView → Type 0
IsOnItsWayOut v = (met : Option Refusal) × (v.holds.way ≡ outward met)

-- while a call is out, this is held
abbrev pub Waits : WriteView → WriteHolds → WriteAwaited → WriteView → Type 0
Waits v holds awaited after = after ≡ record v { holds = holds; awaited = Some awaited }

-- its write's shard of this number is there, and takes part in it
abbrev pub HasShard : ℕ → WriteView → ℕ → Type 0
HasShard shards v s = (i : IntentValue) × (v.holds.intent ≡ Some i) × (s < shards) × (takes_part shards s i.write ≡ true)

-- What the shards gave so far is tickets, and of shards below this one: none has given any from this one on, and none has voted.
abbrev pub GaveBelow : WriteView → ℕ → Type 0
GaveBelow v s = ((t : HeldTicket) → Contains v.holds.tickets t → t.shard < s) × (v.holds.votes ≡ [])

-- A call of the coordinator, by what it may be handed. A write is decided only on its way, by its intent and its votes, and never one that is decided; it is
-- aborted only on its way out. A coordinator that is full for the decision is flushed, but not twice.
abbrev pub AsksCoordinator : WriteView → CoordinatorCall → WriteView → Type 0
AsksCoordinator v (calls.Begin write) after = ((v.write ≡ Some write) × (v.holds ≡ nothing_begun)) × (after ≡ record v { write = None; awaited = Some waits.begin })
AsksCoordinator v calls.Heads after = ⊥
AsksCoordinator v (calls.Batch from to) after = (IsOnItsWay v × IsCaughtUpTo v to) × Waits v v.holds (waits.catch_up decisions) after
AsksCoordinator v (calls.Decide intent votes) after = IsOnItsWay v × (v.holds.intent ≡ Some intent) × (v.holds.id ≡ Some intent.write.id) × (v.holds.votes ≡ votes.items)
    × Waits v (record v.holds { intent = None; votes = [] }) (waits.decide v.flushed) after
AsksCoordinator v (calls.Outcome decided) after = (v.holds.decided ≡ Some decided) × Waits v (record v.holds { decided = None }) waits.outcome after
AsksCoordinator v (calls.Abort intent) after = IsOnItsWayOut v × (v.holds.intent ≡ Some intent) × Waits v (record v.holds { intent = None }) waits.abort after
AsksCoordinator v (calls.Inquire id) after = IsOnItsWayOut v × (v.holds.intent ≡ None) × (v.holds.id ≡ Some id) × Waits v v.holds waits.inquire after
AsksCoordinator v (calls.Raise place settled) after = ⊥
AsksCoordinator v calls.Checkpoint after = ⊥
AsksCoordinator v calls.Flush after = (IsOnItsWay v × Waits v v.holds waits.flush_to_decide after × (v.flushed ≡ false)) ⊎ ((v.holds.way ≡ onward) × (v.holds.decided ≢ None) × Waits v v.holds waits.flush_to_outcome after)

-- A call of a shard, by what it may be handed: on its way one that takes part in the write, which prepares its part only if it is caught up, and is
-- asked for that once, or, if it was full, once more after a flush; on its way out one that gave a ticket or a vote.
abbrev pub AsksShard : ℕ → WriteView → ℕ → ShardCall → WriteView → Type 0
AsksShard shards v s shard_calls.Learned after = IsOnItsWay v × HasShard shards v s × Waits v v.holds (waits.catch_up learned) after
AsksShard shards v s (shard_calls.Learn batch) after = IsOnItsWay v × HasShard shards v s × (v.holds.batch ≡ Some batch)
    × ((again : Bool) × Waits v (record v.holds { batch = None }) (waits.catch_up (learning again)) after)
AsksShard shards v s (shard_calls.StagePrepare intent) after = IsOnItsWay v × (v.caught ≡ Some s) × (s < shards) × (v.holds.intent ≡ Some intent) × (v.holds.id ≡ Some intent.write.id)
    × GaveBelow v s × ((bits : ℕ) × ArePartsOf bits shards intent.write × Waits (record v { caught = None }) (record v.holds { intent = None }) (waits.prepare s v.flushed bits) after)
AsksShard shards v s (shard_calls.Vote ticket) after = IsOnItsWay v × (v.holds.id ≡ Some ticket.id)
    × ((others : List HeldTicket) × (v.holds.tickets ≡ ticket_value (s, ticket) ∷ others) × Waits v (record v.holds { tickets = others }) (waits.vote s) after)
AsksShard shards v s (shard_calls.DropWrite verdict None) after = ⊥
AsksShard shards v s (shard_calls.DropWrite verdict (Some held)) after = IsOnItsWayOut v × (v.holds.verdict ≡ Some verdict.id)
    × ((tickets : List HeldTicket) × (votes : List VoteValue) × (v.holds.tickets ≡ as_tickets s held ++ tickets) × (v.holds.votes ≡ as_votes held ++ votes)
    × Waits v (record v.holds { tickets = tickets; votes = votes; verdict = None }) waits.drop_write after)
AsksShard shards v s shard_calls.InDoubt after = ⊥
AsksShard shards v s (shard_calls.Read place set) after = ⊥
AsksShard shards v s (shard_calls.ReadForCheck place x u) after = ⊥
AsksShard shards v s shard_calls.Settle after = ⊥
AsksShard shards v s (shard_calls.Collect heads) after = ⊥
AsksShard shards v s shard_calls.Checkpoint after = ⊥
AsksShard shards v s shard_calls.Flush after = IsOnItsWay v
    × ((HasShard shards v s × (Waits v v.holds (waits.catch_up flushing) after ⊎ Waits v v.holds (waits.flush_to_prepare s) after))
    ⊎ ((t : TicketValue) × (others : List HeldTicket) × (v.holds.tickets ≡ ticket_value (s, t) ∷ others) × Waits v v.holds (waits.flush_to_vote s) after))
    × (v.flushed ≡ false)

-- Which call is made next: what a node is owed is kept.
abbrev pub Asks : ℕ → WriteView → NodeCall → WriteView → Type 0
Asks shards v (Coordinator call) after = MayAskCoordinator shards call × AsksCoordinator v call after
Asks shards v (Shard s call) after = MayAskShard shards s call × AsksShard shards v s call after
