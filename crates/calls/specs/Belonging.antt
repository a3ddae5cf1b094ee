-- Which replies belong to which call, and which node may be asked it.
use Rattle.std.specs.Prelude.{◌≡◌, ℕ, List, Option, Some, None, Result, Ok, Err, IfOk}
use Rattle.decisions.specs.Standing.{DecidedValue}
use Rattle.decisions.specs.Values.{IntentValue, SettledValue, TicketValue, VoteValue}
use Rattle.coordinator.specs.declared.decided.NotDecided.{NotDecided}
use Rattle.coordinator.specs.declared.raising.NotRaised.{NotRaised}
use Rattle.shard.specs.declared.replies.VoteReply.{VoteReply}
use Rattle.shard.specs.declared.replies.VoteReply.TheVariants.{Yes, Later as votes_later, No}
use Rattle.calls.specs.Asking.{MayAskCoordinator, MayAskShard}
use Rattle.names.specs.declared.node_name.NodeName.{NodeName}
use Rattle.names.specs.declared.node_name.NodeName.TheVariants.{Coordinator as name_coordinator, Shard as name_shard}
use Rattle.calls.specs.declared.call.NodeCall.{NodeCall}
use Rattle.calls.specs.declared.call.NodeCall.TheVariants.{Coordinator, Shard}
use Rattle.calls.specs.declared.call.CoordinatorCall.{CoordinatorCall}
use Rattle.calls.specs.declared.call.CoordinatorCall.TheVariants.{Begin, Heads, Batch, Decide, Outcome, Abort, Inquire, Raise, Flush, Checkpoint}
use Rattle.calls.specs.declared.call.ShardCall.{ShardCall}
use Rattle.calls.specs.declared.call.ShardCall.TheVariants.{Learned, Learn, StagePrepare, Vote, DropWrite, InDoubt, Read, ReadForCheck, Settle, Collect, Flush as flush_shard, Checkpoint as checkpoint_shard}
use Rattle.calls.specs.declared.reply.Reply.{Reply}
use Rattle.calls.specs.declared.reply.Reply.TheVariants.{Coordinator as from_coordinator, Shard as from_shard}
use Rattle.calls.specs.declared.reply.CoordinatorReply as coordinators
use Rattle.calls.specs.declared.reply.CoordinatorReply.TheVariants as told
use Rattle.calls.specs.declared.reply.ShardReply as shards
use Rattle.calls.specs.declared.reply.ShardReply.TheVariants as told_by
use Rattle.calls.specs.Views.{NodeView, coordinator, shard, refused}

-- an intent that comes back is the one that was handed in
abbrev pub IsIntentBack : IntentValue → Option IntentValue → Type 0
IsIntentBack intent None = Unit {0}
IsIntentBack intent (Some back) = back ≡ intent

-- if there is no decision, the votes come back, and so does the intent if it is not spent
abbrev pub GivesBallotBack : IntentValue → List VoteValue → Result DecidedValue NotDecided → Type 0
GivesBallotBack intent votes (Ok decided) = Unit {0}
GivesBallotBack intent votes (Err e) = IsIntentBack intent e.intent × (e.votes.items ≡ votes)

-- if the horizon is not raised, what the shards have settled comes back
abbrev pub GivesSettledBack : List SettledValue → Result (Unit {0}) NotRaised → Type 0
GivesSettledBack settled (Ok done) = Unit {0}
GivesSettledBack settled (Err e) = e.settled.items ≡ settled

abbrev pub IsCoordinatorReplyTo : CoordinatorCall → coordinators.CoordinatorReply → Type 0
IsCoordinatorReplyTo (Begin write) (told.Begin r) = Unit {0}
IsCoordinatorReplyTo Heads (told.Heads r) = Unit {0}
IsCoordinatorReplyTo (Batch from to) (told.Batch r) = Unit {0}
IsCoordinatorReplyTo (Decide intent votes) (told.Decide r) = GivesBallotBack intent votes.items r
IsCoordinatorReplyTo (Outcome decided) (told.Outcome r) = Unit {0}
IsCoordinatorReplyTo (Abort intent) (told.Abort r) = Unit {0}
IsCoordinatorReplyTo (Inquire id) (told.Inquire r) = Unit {0}
IsCoordinatorReplyTo (Raise place settled) (told.Raise r) = GivesSettledBack settled.items r
IsCoordinatorReplyTo Flush (told.Flush r) = Unit {0}
IsCoordinatorReplyTo Checkpoint (told.Checkpoint r) = Unit {0}
IsCoordinatorReplyTo call reply = ⊥

-- A vote is the shard's, for the write of the ticket; a ticket that comes back is the one that was handed in.
abbrev pub GivesVote : ℕ → TicketValue → VoteReply → Type 0
GivesVote s ticket (Yes vote) = (vote.id ≡ ticket.id) × (vote.shard ≡ s)
GivesVote s ticket (votes_later back) = back ≡ ticket
GivesVote s ticket (No e) = Unit {0}

-- what the shard of this number replies
abbrev pub IsShardReplyTo : ℕ → ShardCall → shards.ShardReply → Type 0
IsShardReplyTo s Learned (told_by.Learned r) = Unit {0}
IsShardReplyTo s (Learn batch) (told_by.Learn back r) = back ≡ batch
IsShardReplyTo s (StagePrepare intent) (told_by.StagePrepare back r) = (back ≡ intent) × IfOk r (λ t. t.id ≡ intent.write.id)
IsShardReplyTo s (Vote ticket) (told_by.Vote r) = GivesVote s ticket r
IsShardReplyTo s (DropWrite verdict held) (told_by.DropWrite back r) = back ≡ verdict
IsShardReplyTo s InDoubt (told_by.InDoubt r) = Unit {0}
IsShardReplyTo s (Read place set) (told_by.Read back r) = back ≡ set
IsShardReplyTo s (ReadForCheck place x u) (told_by.ReadForCheck back_x back_u r) = (back_x ≡ x) × (back_u ≡ u)
IsShardReplyTo s Settle (told_by.Settle r) = Unit {0}
IsShardReplyTo s (Collect heads) (told_by.Collect back r) = back ≡ heads
IsShardReplyTo s flush_shard (told_by.Flush r) = Unit {0}
IsShardReplyTo s checkpoint_shard (told_by.Checkpoint r) = Unit {0}
IsShardReplyTo s call reply = ⊥

-- The reply is one to this call, and what was lent comes back as it was, even if the call was refused.
abbrev pub IsReplyTo : NodeCall → Reply → Type 0
IsReplyTo (Coordinator call) (from_coordinator reply) = IsCoordinatorReplyTo call reply
IsReplyTo (Shard s call) (from_shard reply) = IsShardReplyTo s call reply
IsReplyTo call reply = ⊥

-- the node of this name in a store of this many shards; one whose opening was refused may be any
abbrev pub IsNodeOf : {D : Type 0} → ℕ → NodeName → NodeView D → Type 0
IsNodeOf shards name_coordinator (coordinator v) = v.me.shards ≡ shards
IsNodeOf shards (name_shard s) (shard v) = (v.me.node ≡ s) × (v.me.shards ≡ shards)
IsNodeOf shards name (refused e a b) = Unit {0}
IsNodeOf shards name node = ⊥

-- a shard is still that shard, and no other node has become one
abbrev pub IsSameShard : {D : Type 0} → NodeView D → NodeView D → Type 0
IsSameShard (shard old) (shard new) = new.me ≡ old.me
IsSameShard old (shard new) = ⊥
IsSameShard old new = Unit {0}

-- what is owed to the node that a call names, in a store of this many shards
abbrev pub IsOwed : ℕ → NodeCall → Type 0
IsOwed shards (Coordinator call) = MayAskCoordinator shards call
IsOwed shards (Shard s call) = MayAskShard shards s call
