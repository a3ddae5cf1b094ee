-- What a node may be asked, and what is answered.
use Rattle.std.specs.Prelude.{◌≡◌, ◌≤◌, ◌<◌, ℕ, true, List, Err, None}
use Rattle.refusal.specs.declared.refusal.Refusal.{Refusal}
use Rattle.tuples.specs.Parts.{takes_part}
use Rattle.device.specs.Device.{State}
use Rattle.decisions.specs.Coordinators.{CoordinatorView, HaveSettled, HaveVoted}
use Rattle.decisions.specs.Values.{SettledValue, VoteValue}
use Rattle.coordinator.specs.declared.decided.NotDecided.{NotDecided}
use Rattle.coordinator.specs.declared.raising.NotRaised.{NotRaised}
use Rattle.coordinator.specs.declared.telling.Outcome.TheVariants.{Unsure}
use Rattle.shard.specs.Shards.{ShardView}
use Rattle.shard.specs.declared.replies.VoteReply.TheVariants.{No}
use Rattle.calls.specs.declared.call.NodeCall.{NodeCall}
use Rattle.calls.specs.declared.call.NodeCall.TheVariants.{Coordinator, Shard}
use Rattle.calls.specs.declared.call.CoordinatorCall.{CoordinatorCall}
use Rattle.calls.specs.declared.call.CoordinatorCall.TheVariants.{Begin, Heads, Batch, Decide, Outcome, Abort, Inquire, Raise, Flush, Checkpoint}
use Rattle.calls.specs.declared.call.ShardCall.{ShardCall}
use Rattle.calls.specs.declared.call.ShardCall.TheVariants.{Learned, Learn, StagePrepare, Vote, DropWrite, InDoubt, Read, ReadForCheck, Settle, Collect, Flush as flush_shard, Checkpoint as checkpoint_shard}
use Rattle.calls.specs.declared.reply.Reply.{Reply}
use Rattle.calls.specs.declared.reply.Reply.TheVariants.{Coordinator as from_coordinator, Shard as from_shard}
use Rattle.calls.specs.declared.reply.CoordinatorReply as coordinators
use Rattle.calls.specs.declared.reply.CoordinatorReply.TheVariants as told
use Rattle.calls.specs.declared.reply.ShardReply as shards
use Rattle.calls.specs.declared.reply.ShardReply.TheVariants as told_by
use Rattle.calls.specs.Views.{NodeView, coordinator, shard, refused}
use Rattle.calls.specs.CoordinatorAnswers as by_coordinator
use Rattle.calls.specs.ShardAnswers as by_shard

-- what is owed to the coordinator of a store of this many shards
abbrev pub MayAskCoordinator : ℕ → CoordinatorCall → Type 0
MayAskCoordinator shards (Begin write) = Unit {0}
MayAskCoordinator shards Heads = Unit {0}
MayAskCoordinator shards (Batch from to) = from ≤ to
MayAskCoordinator shards (Decide intent votes) = HaveVoted shards intent.write votes.items
MayAskCoordinator shards (Outcome decided) = Unit {0}
MayAskCoordinator shards (Abort intent) = Unit {0}
MayAskCoordinator shards (Inquire id) = Unit {0}
MayAskCoordinator shards (Raise place settled) = HaveSettled shards place settled.items
MayAskCoordinator shards Flush = Unit {0}
MayAskCoordinator shards Checkpoint = Unit {0}

-- what is owed to a shard of this many
abbrev pub MayAskShard : ℕ → ℕ → ShardCall → Type 0
MayAskShard shards s Learned = Unit {0}
MayAskShard shards s (Learn batch) = Unit {0}
MayAskShard shards s (StagePrepare intent) = takes_part shards s intent.write ≡ true
MayAskShard shards s (Vote ticket) = Unit {0}
MayAskShard shards s (DropWrite verdict held) = Unit {0}
MayAskShard shards s InDoubt = Unit {0}
MayAskShard shards s (Read place set) = Unit {0}
MayAskShard shards s (ReadForCheck place x u) = Unit {0}
MayAskShard shards s Settle = Unit {0}
MayAskShard shards s (Collect heads) = Unit {0}
MayAskShard shards s flush_shard = Unit {0}
MayAskShard shards s checkpoint_shard = Unit {0}

-- a call that may be made in a store of this many shards, of the node that it names
abbrev pub MayBeMade : ℕ → NodeCall → Type 0
MayBeMade shards (Coordinator call) = MayAskCoordinator shards call
MayBeMade shards (Shard s call) = (s < shards) × MayAskShard shards s call

-- a node may be asked this: it is the node that the call names, or its opening was refused
abbrev pub MayAsk : {D : Type 0} → NodeView D → NodeCall → Type 0
MayAsk (coordinator v) (Coordinator call) = MayAskCoordinator v.me.shards call
MayAsk (coordinator v) (Shard s call) = ⊥
MayAsk (shard v) (Coordinator call) = ⊥
MayAsk (shard v) (Shard s call) = (v.me.node ≡ s) × MayAskShard v.me.shards s call
MayAsk (refused e a b) call = Unit {0}

-- there is no decision, with this refusal: the intent is spent, and the votes come back
abbrev pub IsNotDecided : Refusal → List VoteValue → NotDecided → Type 0
IsNotDecided e votes back = (back.refusal ≡ e) × (back.intent ≡ None) × (back.votes.items ≡ votes)

-- the horizon is not raised, with this refusal
abbrev pub IsNotRaised : Refusal → List SettledValue → NotRaised → Type 0
IsNotRaised e settled back = (back.refusal ≡ e) × (back.settled.items ≡ settled)

-- The answer of a node whose opening was refused: that refusal, with what was lent. What would have been spent is spent.
abbrev pub CoordinatorRefuses : Refusal → CoordinatorCall → coordinators.CoordinatorReply → Type 0
CoordinatorRefuses e (Begin write) (told.Begin r) = r ≡ Err e
CoordinatorRefuses e Heads (told.Heads r) = r ≡ Err e
CoordinatorRefuses e (Batch from to) (told.Batch r) = r ≡ Err e
CoordinatorRefuses e (Decide intent votes) (told.Decide (Err back)) = IsNotDecided e votes.items back
CoordinatorRefuses e (Outcome decided) (told.Outcome r) = r ≡ Unsure
CoordinatorRefuses e (Abort intent) (told.Abort r) = r ≡ Err e
CoordinatorRefuses e (Inquire id) (told.Inquire r) = r ≡ Err e
CoordinatorRefuses e (Raise place settled) (told.Raise (Err back)) = IsNotRaised e settled.items back
CoordinatorRefuses e Flush (told.Flush r) = r ≡ Err e
CoordinatorRefuses e Checkpoint (told.Checkpoint r) = r ≡ Err e
CoordinatorRefuses e call reply = ⊥

abbrev pub ShardRefuses : Refusal → ShardCall → shards.ShardReply → Type 0
ShardRefuses e Learned (told_by.Learned r) = r ≡ Err e
ShardRefuses e (Learn batch) (told_by.Learn back r) = (back ≡ batch) × (r ≡ Err e)
ShardRefuses e (StagePrepare intent) (told_by.StagePrepare back r) = (back ≡ intent) × (r ≡ Err e)
ShardRefuses e (Vote ticket) (told_by.Vote r) = r ≡ No e
ShardRefuses e (DropWrite verdict held) (told_by.DropWrite back r) = (back ≡ verdict) × (r ≡ Err e)
ShardRefuses e InDoubt (told_by.InDoubt r) = r ≡ Err e
ShardRefuses e (Read place set) (told_by.Read back r) = (back ≡ set) × (r ≡ Err e)
ShardRefuses e (ReadForCheck place x u) (told_by.ReadForCheck back_x back_u r) = (back_x ≡ x) × (back_u ≡ u) × (r ≡ Err e)
ShardRefuses e Settle (told_by.Settle r) = r ≡ Err e
ShardRefuses e (Collect heads) (told_by.Collect back r) = (back ≡ heads) × (r ≡ Err e)
ShardRefuses e flush_shard (told_by.Flush r) = r ≡ Err e
ShardRefuses e checkpoint_shard (told_by.Checkpoint r) = r ≡ Err e
ShardRefuses e call reply = ⊥

abbrev pub Refuses : Refusal → NodeCall → Reply → Type 0
Refuses e (Coordinator call) (from_coordinator reply) = CoordinatorRefuses e call reply
Refuses e (Shard s call) (from_shard reply) = ShardRefuses e call reply
Refuses e call reply = ⊥

module _ {D : Type 0} (state : D → State) (honest : D → Type 0) (moment : D → ℕ) (left_since : D → ℕ → List ℕ → Type 0) where
  -- What a coordinator does at a call.
  abbrev pub CoordinatorAnswers : CoordinatorView D → CoordinatorCall → coordinators.CoordinatorReply → CoordinatorView D → Type 0
  CoordinatorAnswers old (Begin write) (told.Begin r) new = by_coordinator.BeginAnswers state honest old write r new
  CoordinatorAnswers old Heads (told.Heads r) new = (new ≡ old) × by_coordinator.HeadsAnswers state honest old r
  CoordinatorAnswers old (Batch from to) (told.Batch r) new = (new ≡ old) × by_coordinator.BatchAnswers state honest old from to r
  CoordinatorAnswers old (Decide intent votes) (told.Decide r) new = by_coordinator.DecideAnswers state honest old intent votes.items r new
  CoordinatorAnswers old (Outcome decided) (told.Outcome r) new = (new ≡ old) × by_coordinator.OutcomeAnswers state honest old decided r
  CoordinatorAnswers old (Abort intent) (told.Abort r) new = by_coordinator.AbortAnswers state honest old intent r new
  CoordinatorAnswers old (Inquire id) (told.Inquire r) new = (new ≡ old) × by_coordinator.InquireAnswers state honest old id r
  CoordinatorAnswers old (Raise place settled) (told.Raise r) new = by_coordinator.RaiseAnswers state honest old place settled.items r new
  CoordinatorAnswers old Flush (told.Flush r) new = by_coordinator.FlushAnswers state honest moment left_since old r new
  CoordinatorAnswers old Checkpoint (told.Checkpoint r) new = by_coordinator.CheckpointAnswers state honest moment left_since old r new
  CoordinatorAnswers old call reply new = ⊥

  -- What a shard does at a call.
  abbrev pub ShardAnswers : ShardView D → ShardCall → shards.ShardReply → ShardView D → Type 0
  ShardAnswers old Learned (told_by.Learned r) new = (new ≡ old) × by_shard.LearnedAnswers state honest old r
  ShardAnswers old (Learn batch) (told_by.Learn back r) new = (back ≡ batch) × by_shard.LearnAnswers state honest old batch r new
  ShardAnswers old (StagePrepare intent) (told_by.StagePrepare back r) new = (back ≡ intent) × by_shard.PrepareAnswers state honest old intent r new
  ShardAnswers old (Vote ticket) (told_by.Vote r) new = (new ≡ old) × by_shard.VoteAnswers state honest old ticket r
  ShardAnswers old (DropWrite verdict held) (told_by.DropWrite back r) new = (back ≡ verdict) × by_shard.DropAnswers state honest old verdict r new
  ShardAnswers old InDoubt (told_by.InDoubt r) new = (new ≡ old) × by_shard.InDoubtAnswers state honest old r
  ShardAnswers old (Read place set) (told_by.Read back r) new = (new ≡ old) × (back ≡ set) × by_shard.ReadAnswers state honest old place set r
  ShardAnswers old (ReadForCheck place x u) (told_by.ReadForCheck back_x back_u r) new = (new ≡ old) × (back_x ≡ x) × (back_u ≡ u) × by_shard.ReadForCheckAnswers state honest old place x u r
  ShardAnswers old Settle (told_by.Settle r) new = (new ≡ old) × by_shard.SettleAnswers state honest old r
  ShardAnswers old (Collect heads) (told_by.Collect back r) new = (back ≡ heads) × by_shard.CollectAnswers state honest old heads r new
  ShardAnswers old flush_shard (told_by.Flush r) new = by_shard.FlushAnswers state honest moment left_since old r new
  ShardAnswers old checkpoint_shard (told_by.Checkpoint r) new = by_shard.CheckpointAnswers state honest moment left_since old r new
  ShardAnswers old call reply new = ⊥

  -- What a node does at a call, and what it leaves of itself: its kind stays, and one whose opening was refused is as before.
  abbrev pub Answered : NodeView D → NodeCall → Reply → NodeView D → Type 0
  Answered (coordinator old) (Coordinator call) (from_coordinator reply) (coordinator new) = CoordinatorAnswers old call reply new
  Answered (shard old) (Shard s call) (from_shard reply) (shard new) = ShardAnswers old call reply new
  Answered (refused e a b) call reply new = (new ≡ refused e a b) × Refuses e call reply
  Answered old call reply new = ⊥
