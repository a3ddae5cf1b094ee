-- A node that a write flow calls has what it is owed, and its reply is one to the call that is out.
use Rattle.std.proofs.Common.{◌≡◌, ◌∙◌, ℕ, true, List, Option, Some, None, MatchOption, Result, Ok, Err, IfOk, inl, inr, sym, ap, subst}
use Rattle.tuples.specs.declared.entry.WriteId.{WriteId}
use Rattle.tuples.specs.Parts.{takes_part}
use Rattle.decisions.specs.Standing.{DecidedValue}
use Rattle.decisions.specs.Coordinators.{HaveVoted}
use Rattle.decisions.specs.Values.{IntentValue, TicketValue, VoteValue}
use Rattle.shard.specs.declared.replies.VoteReply.{VoteReply}
use Rattle.shard.specs.declared.replies.VoteReply.TheVariants.{Yes, Later as votes_later, No}
use Rattle.coordinator.specs.declared.decided.NotDecided.{NotDecided}
use Rattle.calls.specs.Asking.{MayAskCoordinator, MayAskShard}
use Rattle.calls.specs.Belonging.{GivesBallotBack, GivesVote, IsCoordinatorReplyTo, IsIntentBack, IsOwed, IsReplyTo, IsShardReplyTo}
use Rattle.calls.specs.declared.call.NodeCall.{NodeCall}
use Rattle.calls.specs.declared.call.NodeCall.TheVariants.{Coordinator, Shard}
use Rattle.calls.specs.declared.call.CoordinatorCall.{CoordinatorCall}
use Rattle.calls.specs.declared.call.CoordinatorCall.TheVariants as calls
use Rattle.calls.specs.declared.call.ShardCall.{ShardCall}
use Rattle.calls.specs.declared.call.ShardCall.TheVariants as shard_calls
use Rattle.calls.specs.declared.reply.Reply.{Reply}
use Rattle.calls.specs.declared.reply.Reply.TheVariants.{Coordinator as from_coordinator, Shard as from_shard}
use Rattle.calls.specs.declared.reply.CoordinatorReply.{CoordinatorReply}
use Rattle.calls.specs.declared.reply.CoordinatorReply.TheVariants as told
use Rattle.calls.specs.declared.reply.ShardReply.{ShardReply}
use Rattle.calls.specs.declared.reply.ShardReply.TheVariants as told_by
use Rattle.commit_flow.specs.Views.{WriteView}
use Rattle.commit_flow.specs.Writing.{Asks, AsksCoordinator, AsksShard}
use Rattle.commit_flow.specs.Answering.{Fits, IfBack, IsVoteOf, RefusedBack}
use Rattle.commit_flow.specs.Flows.{WriteCallValue, WriteFlowValue, seen_of, seen_out}
use Rattle.commit_flow.specs.Running.{AsksWrite, AwaitsWrite}
use Rattle.commit_flow.specs.Participants.{ArePartsOf}

owed_of : (shards : ℕ) (v : WriteView) (call : NodeCall) (after : WriteView) → Asks shards v call after → IsOwed shards call
owed_of shards v (Coordinator call) after h = h.0
owed_of shards v (Shard s call) after h = h.0

pub owed : (v : WriteFlowValue) (call : NodeCall) (out : WriteCallValue) (shards : ℕ) → AsksWrite v call out → v.shards ≡ shards → IsOwed shards call
owed v call out shards asks of = subst (λ (n : ℕ). IsOwed n call) of (owed_of v.shards (seen_of v) call (seen_out out) asks.2)

-- a call is out, and the reply is one to it
abbrev MayGive : ℕ → WriteView → Reply → Type 0
MayGive shards v reply = MatchOption v.awaited ⊥ (λ awaited. Fits shards v awaited reply)

same_id : (held : Option WriteId) (x y : WriteId) → held ≡ Some x → held ≡ Some y → x ≡ y
same_id held x y p q = cc

if_back : (shards : ℕ) (intent : IntentValue) (votes : List VoteValue) (back : Option IntentValue) (id : WriteId) → intent.write.id ≡ id → HaveVoted shards intent.write votes → IsIntentBack intent back
    → IfBack back (λ i. (i.write.id ≡ id) × HaveVoted shards i.write votes)
if_back shards intent votes None id is voted b = tt
if_back shards intent votes (Some back) id is voted b = (ap (λ (i : IntentValue). i.write.id) b ∙ is, subst (λ (i : IntentValue). HaveVoted shards i.write votes) (sym b) voted)

ballot_back : (shards : ℕ) (intent : IntentValue) (held : Option WriteId) (votes : List VoteValue) (r : Result DecidedValue NotDecided)
    → held ≡ Some intent.write.id → HaveVoted shards intent.write votes → GivesBallotBack intent votes r → (id : WriteId) → held ≡ Some id → RefusedBack shards id r
ballot_back shards intent held votes (Ok d) is voted b id at = tt
ballot_back shards intent held votes (Err e) is voted b id at =
    if_back shards intent e.votes.items e.intent id (same_id held intent.write.id id is at) (subst (HaveVoted shards intent.write) (sym b.1) voted) b.0

vote_back : (s : ℕ) (ticket : TicketValue) (held : Option WriteId) (r : VoteReply) → held ≡ Some ticket.id → GivesVote s ticket r → (id : WriteId) → held ≡ Some id → IsVoteOf s id r
vote_back s ticket held (Yes vote) is b id at = (b.0 ∙ same_id held ticket.id id is at, b.1)
vote_back s ticket held (votes_later t) is b id at = ap (λ (t : TicketValue). t.id) b ∙ same_id held ticket.id id is at
vote_back s ticket held (No e) is b id at = tt

-- the view after the call is the one that waits for its reply
waits_for : (shards : ℕ) (reply : Reply) (after then : WriteView) → after ≡ then → MayGive shards then reply → MayGive shards after reply
waits_for shards reply after then is may = subst (λ (x : WriteView). MayGive shards x reply) (sym is) may

fits_coordinator : (shards : ℕ) (v : WriteView) (call : CoordinatorCall) (reply : CoordinatorReply) (after : WriteView)
    → MayAskCoordinator shards call → AsksCoordinator v call after → IsCoordinatorReplyTo call reply → MayGive shards after (from_coordinator reply)
fits_coordinator shards v (calls.Begin write) (told.Begin r) after may h b = waits_for shards (from_coordinator (told.Begin r)) after _ h.1 tt
fits_coordinator shards v (calls.Batch from to) (told.Batch r) after may h b = waits_for shards (from_coordinator (told.Batch r)) after _ h.1 tt
fits_coordinator shards v (calls.Decide intent votes) (told.Decide r) after may h b =
    waits_for shards (from_coordinator (told.Decide r)) after _ h.4 (ballot_back shards intent v.holds.id votes.items r h.2 may b)
fits_coordinator shards v (calls.Outcome decided) (told.Outcome r) after may h b = waits_for shards (from_coordinator (told.Outcome r)) after _ h.1 tt
fits_coordinator shards v (calls.Abort intent) (told.Abort r) after may h b = waits_for shards (from_coordinator (told.Abort r)) after _ h.2 tt
fits_coordinator shards v (calls.Inquire id) (told.Inquire r) after may h b = waits_for shards (from_coordinator (told.Inquire r)) after _ h.3 tt
fits_coordinator shards v calls.Flush (told.Flush r) after may h b = elim h [
  | inl w ↦ waits_for shards (from_coordinator (told.Flush r)) after _ w.1 tt
  | inr w ↦ waits_for shards (from_coordinator (told.Flush r)) after _ w.2 tt
]
fits_coordinator shards v calls.Heads reply after may h b = absurd h
fits_coordinator shards v (calls.Raise place settled) reply after may h b = absurd h
fits_coordinator shards v calls.Checkpoint reply after may h b = absurd h
fits_coordinator shards v call reply after may h b = absurd b

fits_shard : (shards s : ℕ) (v : WriteView) (call : ShardCall) (reply : ShardReply) (after : WriteView)
    → MayAskShard shards s call → AsksShard shards v s call after → IsShardReplyTo s call reply → MayGive shards after (from_shard reply)
fits_shard shards s v shard_calls.Learned (told_by.Learned r) after may h b = waits_for shards (from_shard (told_by.Learned r)) after _ h.2 tt
fits_shard shards s v (shard_calls.Learn batch) (told_by.Learn back r) after may h b = waits_for shards (from_shard (told_by.Learn back r)) after _ h.3.1 tt
fits_shard shards s v (shard_calls.StagePrepare intent) (told_by.StagePrepare back r) after may h b =
    waits_for shards (from_shard (told_by.StagePrepare back r)) after _ h.6.2 (
      λ (id : WriteId) at. ap (λ (i : IntentValue). i.write.id) b.0 ∙ same_id v.holds.id intent.write.id id h.4 at,
      subst (λ (i : IntentValue). takes_part shards s i.write ≡ true) (sym b.0) may,
      subst (λ (i : IntentValue). ArePartsOf h.6.0 shards i.write) (sym b.0) h.6.1,
      subst (λ (i : IntentValue). IfOk r (λ t. t.id ≡ i.write.id)) (sym b.0) b.1,
    )
fits_shard shards s v (shard_calls.Vote ticket) (told_by.Vote r) after may h b = waits_for shards (from_shard (told_by.Vote r)) after _ h.2.2 (vote_back s ticket v.holds.id r h.1 b)
fits_shard shards s v (shard_calls.DropWrite verdict (Some held)) (told_by.DropWrite back r) after may h b = waits_for shards (from_shard (told_by.DropWrite back r)) after _ h.2.4 tt
fits_shard shards s v shard_calls.Flush (told_by.Flush r) after may h b = elim h.1 [
  | inl here ↦ elim here.1 [
    | inl w ↦ waits_for shards (from_shard (told_by.Flush r)) after _ w tt
    | inr w ↦ waits_for shards (from_shard (told_by.Flush r)) after _ w tt
  ]
  | inr w ↦ waits_for shards (from_shard (told_by.Flush r)) after _ w.3 tt
]
fits_shard shards s v (shard_calls.DropWrite verdict None) reply after may h b = absurd h
fits_shard shards s v shard_calls.InDoubt reply after may h b = absurd h
fits_shard shards s v (shard_calls.Read place set) reply after may h b = absurd h
fits_shard shards s v (shard_calls.ReadForCheck place x u) reply after may h b = absurd h
fits_shard shards s v shard_calls.Settle reply after may h b = absurd h
fits_shard shards s v (shard_calls.Collect heads) reply after may h b = absurd h
fits_shard shards s v shard_calls.Checkpoint reply after may h b = absurd h
fits_shard shards s v call reply after may h b = absurd b

fits_of : (shards : ℕ) (v : WriteView) (call : NodeCall) (reply : Reply) (after : WriteView) → Asks shards v call after → IsReplyTo call reply → MayGive shards after reply
fits_of shards v (Coordinator call) (from_coordinator reply) after h b = fits_coordinator shards v call reply after h.0 h.1 b
fits_of shards v (Shard s call) (from_shard reply) after h b = fits_shard shards s v call reply after h.0 h.1 b
fits_of shards v call reply after h b = absurd b

pub fits : (v : WriteFlowValue) (call : NodeCall) (out : WriteCallValue) (reply : Reply) → AsksWrite v call out → IsReplyTo call reply → AwaitsWrite out reply
fits v call out reply asks b = subst (λ (n : ℕ). Fits n (seen_out out) out.awaited reply) (sym asks.1) (fits_of v.shards (seen_of v) call reply (seen_out out) asks.2 b)
