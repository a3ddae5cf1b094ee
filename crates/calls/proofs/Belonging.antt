-- A reply that was answered belongs to its call, a node that a call names may be asked it, and a shard stays the shard that it is.
use Rattle.std.proofs.Common.{◌≡◌, inl, inr, ℕ, List, Option, Some, None, Result, Ok, Err, IfOk, refl, sym, ap, subst, ◌∙◌}
use Rattle.refusal.specs.declared.refusal.Refusal.{Refusal}
use Rattle.device.specs.Device.{State}
use Rattle.decisions.specs.Coordinators.{CoordinatorView}
use Rattle.decisions.specs.Standing.{DecidedValue}
use Rattle.decisions.specs.Values.{IntentValue, SettledValue, TicketValue, VoteValue}
use Rattle.coordinator.specs.declared.decided.NotDecided.{NotDecided}
use Rattle.coordinator.specs.declared.raising.NotRaised.{NotRaised}
use Rattle.shard.specs.Shards.{ShardView}
use Rattle.shard.specs.declared.replies.VoteReply.{VoteReply}
use Rattle.shard.specs.declared.replies.VoteReply.TheVariants.{Yes, Later as votes_later, No}
use Rattle.calls.specs.declared.call.NodeCall.{NodeCall}
use Rattle.calls.specs.declared.call.NodeCall.TheVariants.{Coordinator, Shard}
use Rattle.calls.specs.declared.call.CoordinatorCall.{CoordinatorCall}
use Rattle.calls.specs.declared.call.CoordinatorCall.TheVariants.{Begin, Heads, Batch, Decide, Outcome, Abort, Inquire, Raise, Flush, Checkpoint}
use Rattle.calls.specs.declared.call.ShardCall.{ShardCall}
use Rattle.calls.specs.declared.call.ShardCall.TheVariants.{Learned, Learn, StagePrepare, Vote, DropWrite, InDoubt, Read, ReadForCheck, Settle, Collect, Flush as flush_shard, Checkpoint as checkpoint_shard}
use Rattle.calls.specs.declared.reply.Reply.{Reply}
use Rattle.calls.specs.declared.reply.Reply.TheVariants.{Coordinator as from_coordinator, Shard as from_shard}
use Rattle.calls.specs.declared.reply.CoordinatorReply as coordinators
use Rattle.calls.specs.declared.reply.CoordinatorReply.TheVariants as told
use Rattle.calls.specs.declared.reply.ShardReply as shards
use Rattle.calls.specs.declared.reply.ShardReply.TheVariants as told_by
use Rattle.records.specs.Identity.{Identity}
use Rattle.calls.specs.declared.node.Opened.{Opened}
use Rattle.calls.specs.declared.node.Opened.TheVariants.{Coordinator as opened_coordinator, Shard as opened_shard, Refused as opened_refused}
use Rattle.calls.specs.Names.{node_of}
use Rattle.calls.specs.Seen.{IsKeptBeside, seen}
use Rattle.calls.specs.Views.{NodeView, coordinator, shard, refused}
use Rattle.calls.specs.CoordinatorAnswers.{DecideAnswers, RaiseAnswers}
use Rattle.calls.specs.ShardAnswers.{VoteAnswers}
use Rattle.calls.specs.Asking.{Answered, CoordinatorAnswers, CoordinatorRefuses, MayAsk, MayAskCoordinator, MayAskShard, MayBeMade, Refuses, ShardAnswers, ShardRefuses}
use Rattle.calls.specs.Belonging.{GivesBallotBack, GivesSettledBack, GivesVote, IsCoordinatorReplyTo, IsIntentBack, IsNodeOf, IsOwed, IsReplyTo, IsShardReplyTo, IsSameShard}

none_back : (intent : IntentValue) (back : Option IntentValue) → back ≡ None → IsIntentBack intent back
none_back intent back is = subst (IsIntentBack intent) (sym is) tt

some_back : (intent : IntentValue) (back : Option IntentValue) → back ≡ Some intent → IsIntentBack intent back
some_back intent back is = subst (IsIntentBack intent) (sym is) refl

-- if the opening was refused
refused_coordinator : (e : Refusal) (call : CoordinatorCall) (reply : coordinators.CoordinatorReply) → CoordinatorRefuses e call reply → IsCoordinatorReplyTo call reply
refused_coordinator e (Begin write) (told.Begin r) h = tt
refused_coordinator e Heads (told.Heads r) h = tt
refused_coordinator e (Batch from to) (told.Batch r) h = tt
refused_coordinator e (Decide intent votes) (told.Decide (Err back)) h = (none_back intent back.intent h.1, h.2)
refused_coordinator e (Outcome decided) (told.Outcome r) h = tt
refused_coordinator e (Abort intent) (told.Abort r) h = tt
refused_coordinator e (Inquire id) (told.Inquire r) h = tt
refused_coordinator e (Raise place settled) (told.Raise (Err back)) h = h.1
refused_coordinator e Flush (told.Flush r) h = tt
refused_coordinator e Checkpoint (told.Checkpoint r) h = tt
refused_coordinator e call reply h = absurd h

refused_shard : (e : Refusal) (s : ℕ) (call : ShardCall) (reply : shards.ShardReply) → ShardRefuses e call reply → IsShardReplyTo s call reply
refused_shard e s Learned (told_by.Learned r) h = tt
refused_shard e s (Learn batch) (told_by.Learn back r) h = h.0
refused_shard e s (StagePrepare intent) (told_by.StagePrepare back r) h = (h.0, subst (λ (r : Result TicketValue Refusal). IfOk r (λ t. t.id ≡ intent.write.id)) (sym h.1) tt)
refused_shard e s (Vote ticket) (told_by.Vote r) h = subst (GivesVote s ticket) (sym h) tt
refused_shard e s (DropWrite verdict held) (told_by.DropWrite back r) h = h.0
refused_shard e s InDoubt (told_by.InDoubt r) h = tt
refused_shard e s (Read place set) (told_by.Read back r) h = h.0
refused_shard e s (ReadForCheck place x u) (told_by.ReadForCheck back_x back_u r) h = (h.0, h.1)
refused_shard e s Settle (told_by.Settle r) h = tt
refused_shard e s (Collect heads) (told_by.Collect back r) h = h.0
refused_shard e s flush_shard (told_by.Flush r) h = tt
refused_shard e s checkpoint_shard (told_by.Checkpoint r) h = tt
refused_shard e s call reply h = absurd h

pub refused_belongs : (e : Refusal) (call : NodeCall) (reply : Reply) → Refuses e call reply → IsReplyTo call reply
refused_belongs e (Coordinator call) (from_coordinator reply) h = refused_coordinator e call reply h
refused_belongs e (Shard s call) (from_shard reply) h = refused_shard e s call reply h
refused_belongs e call reply h = absurd h

-- the node that a call names may be asked it
pub may_ask : {D : Type 0} (shards : ℕ) (node : NodeView D) (call : NodeCall) → IsOwed shards call → IsNodeOf shards (node_of call) node → MayAsk node call
may_ask shards (coordinator v) (Coordinator call) owed is = subst (λ (n : ℕ). MayAskCoordinator n call) (sym is) owed
may_ask shards (coordinator v) (Shard s call) owed is = absurd is
may_ask shards (shard v) (Coordinator call) owed is = absurd is
may_ask shards (shard v) (Shard s call) owed is = (is.0, subst (λ (n : ℕ). MayAskShard n s call) (sym is.1) owed)
may_ask shards (refused e a b) call owed is = tt

-- a call that may be made has what it owes
pub made_is_owed : (shards : ℕ) (call : NodeCall) → MayBeMade shards call → IsOwed shards call
made_is_owed shards (Coordinator call) may = may
made_is_owed shards (Shard s call) may = may.1

module _ {D : Type 0} (state : D → State) (honest : D → Type 0) where
  decide_back : (old new : CoordinatorView D) (intent : IntentValue) (votes : List VoteValue) (r : Result DecidedValue NotDecided)
      → DecideAnswers state honest old intent votes r new → GivesBallotBack intent votes r
  decide_back old new intent votes (Ok d) h = tt
  decide_back old new intent votes (Err e) h = (elim h.spent [ inl s ↦ none_back intent e.intent s.1 | inr s ↦ some_back intent e.intent s.1 ], h.votes_back)

  raise_back : (old new : CoordinatorView D) (place : ℕ) (settled : List SettledValue) (r : Result (Unit {0}) NotRaised)
      → RaiseAnswers state honest old place settled r new → GivesSettledBack settled r
  raise_back old new place settled (Ok done) h = tt
  raise_back old new place settled (Err e) h = h.err.1

module _ {D : Type 0} (state : D → State) (honest : D → Type 0) (moment : D → ℕ) (left_since : D → ℕ → List ℕ → Type 0) where
  answered_coordinator : (old new : CoordinatorView D) (call : CoordinatorCall) (reply : coordinators.CoordinatorReply)
      → CoordinatorAnswers state honest moment left_since old call reply new → IsCoordinatorReplyTo call reply
  answered_coordinator old new (Begin write) (told.Begin r) h = tt
  answered_coordinator old new Heads (told.Heads r) h = tt
  answered_coordinator old new (Batch from to) (told.Batch r) h = tt
  answered_coordinator old new (Decide intent votes) (told.Decide r) h = decide_back state honest old new intent votes.items r h
  answered_coordinator old new (Outcome decided) (told.Outcome r) h = tt
  answered_coordinator old new (Abort intent) (told.Abort r) h = tt
  answered_coordinator old new (Inquire id) (told.Inquire r) h = tt
  answered_coordinator old new (Raise place settled) (told.Raise r) h = raise_back state honest old new place settled.items r h
  answered_coordinator old new Flush (told.Flush r) h = tt
  answered_coordinator old new Checkpoint (told.Checkpoint r) h = tt
  answered_coordinator old new call reply h = absurd h

  vote_of : (s : ℕ) (v : ShardView D) (ticket : TicketValue) (r : VoteReply) → v.me.node ≡ s → VoteAnswers state honest v ticket r → GivesVote s ticket r
  vote_of s v ticket (Yes vote) is h = let own = h.own vote refl in (own.0, own.1 ∙ is)
  vote_of s v ticket (votes_later back) is h = h.back back refl
  vote_of s v ticket (No e) is h = tt

  answered_shard : (s : ℕ) (old new : ShardView D) (call : ShardCall) (reply : shards.ShardReply)
      → old.me.node ≡ s → ShardAnswers state honest moment left_since old call reply new → IsShardReplyTo s call reply
  answered_shard s old new Learned (told_by.Learned r) is h = tt
  answered_shard s old new (Learn batch) (told_by.Learn back r) is h = h.0
  answered_shard s old new (StagePrepare intent) (told_by.StagePrepare back r) is h = (h.0, h.1.id)
  answered_shard s old new (Vote ticket) (told_by.Vote r) is h = vote_of s old ticket r is h.1
  answered_shard s old new (DropWrite verdict held) (told_by.DropWrite back r) is h = h.0
  answered_shard s old new InDoubt (told_by.InDoubt r) is h = tt
  answered_shard s old new (Read place set) (told_by.Read back r) is h = h.1
  answered_shard s old new (ReadForCheck place x u) (told_by.ReadForCheck back_x back_u r) is h = (h.1, h.2)
  answered_shard s old new Settle (told_by.Settle r) is h = tt
  answered_shard s old new (Collect heads) (told_by.Collect back r) is h = h.0
  answered_shard s old new flush_shard (told_by.Flush r) is h = tt
  answered_shard s old new checkpoint_shard (told_by.Checkpoint r) is h = tt
  answered_shard s old new call reply is h = absurd h

  -- whatever a node has answered belongs to the call
  pub answered_belongs : (old : NodeView D) (call : NodeCall) (reply : Reply) (new : NodeView D)
      → MayAsk old call → Answered state honest moment left_since old call reply new → IsReplyTo call reply
  answered_belongs (coordinator old) (Coordinator call) (from_coordinator reply) (coordinator new) may h = answered_coordinator old new call reply h
  answered_belongs (shard old) (Shard s call) (from_shard reply) (shard new) may h = answered_shard s old new call reply may.0 h
  answered_belongs (refused e a b) call reply new may h = refused_belongs e call reply h.1
  answered_belongs old call reply new may h = absurd h

  stays : (old new : ShardView D) (call : ShardCall) (reply : shards.ShardReply)
      → ShardAnswers state honest moment left_since old call reply new → new.me ≡ old.me
  stays old new Learned (told_by.Learned r) h = ap (λ (v : ShardView D). v.me) h.0
  stays old new (Learn batch) (told_by.Learn back r) h = ap (λ (v : ShardView D). v.me) h.1.stays
  stays old new (StagePrepare intent) (told_by.StagePrepare back r) h = ap (λ (v : ShardView D). v.me) h.1.stays
  stays old new (Vote ticket) (told_by.Vote r) h = ap (λ (v : ShardView D). v.me) h.0
  stays old new (DropWrite verdict held) (told_by.DropWrite back r) h = ap (λ (v : ShardView D). v.me) h.1.stays
  stays old new InDoubt (told_by.InDoubt r) h = ap (λ (v : ShardView D). v.me) h.0
  stays old new (Read place set) (told_by.Read back r) h = ap (λ (v : ShardView D). v.me) h.0
  stays old new (ReadForCheck place x u) (told_by.ReadForCheck back_x back_u r) h = ap (λ (v : ShardView D). v.me) h.0
  stays old new Settle (told_by.Settle r) h = ap (λ (v : ShardView D). v.me) h.0
  stays old new (Collect heads) (told_by.Collect back r) h = ap (λ (v : ShardView D). v.me) h.1.stays
  stays old new flush_shard (told_by.Flush r) h = h.me
  stays old new checkpoint_shard (told_by.Checkpoint r) h = h.me
  stays old new call reply h = absurd h

  -- a shard stays that shard, whatever it is asked
  pub shard_stays : (old : NodeView D) (call : NodeCall) (reply : Reply) (new : NodeView D)
      → Answered state honest moment left_since old call reply new → IsSameShard old new
  shard_stays (coordinator old) (Coordinator call) (from_coordinator reply) (coordinator new) h = tt
  shard_stays (shard old) (Shard s call) (from_shard reply) (shard new) h = stays old new call reply h
  shard_stays (refused e a b) call reply new h = subst (IsSameShard (refused e a b)) (sym h.0) tt
  shard_stays old call reply new h = absurd h

-- a shard that is the same is kept beside the same identity
pub kept_beside : {D : Type 0} (me : Identity) (old new : Opened D) → IsSameShard (seen old) (seen new) → IsKeptBeside me old → IsKeptBeside me new
kept_beside me (opened_shard v) (opened_shard w) same is = same ∙ is
kept_beside me old (opened_coordinator w) same is = tt
kept_beside me old (opened_refused r) same is = tt
kept_beside me old (opened_shard w) same is = absurd same

-- the reply is one to the call of an equation
pub to_call : (x y : NodeCall) (reply : Reply) → x ≡ y → IsReplyTo x reply → IsReplyTo y reply
to_call x y reply is b = subst (λ (c : NodeCall). IsReplyTo c reply) is b
