-- The one call of a flush, or of a checkpoint, and what its reply makes of it.
use Rattle.std.specs.Prelude.{◌≡◌, ◌<◌, ℕ, Bool, true, false, Option, Some, None, MatchOption}
use Rattle.names.specs.declared.node_name.NodeName.{NodeName}
use Rattle.names.specs.declared.node_name.NodeName.TheVariants.{Coordinator, Shard}
use Rattle.calls.specs.declared.call.NodeCall.{NodeCall}
use Rattle.names.specs.declared.call_name.CallName.{CallName}
use Rattle.names.specs.declared.call_name.CallName.TheVariants as names
use Rattle.calls.specs.declared.call.NodeCall.TheVariants.{Coordinator as of_coordinator, Shard as of_shard}
use Rattle.calls.specs.declared.call.CoordinatorCall.TheVariants as coordinator_calls
use Rattle.calls.specs.declared.call.ShardCall.TheVariants as shard_calls
use Rattle.calls.specs.declared.reply.Reply.{Reply}
use Rattle.calls.specs.declared.reply.Reply.TheVariants.{Coordinator as from_coordinator, Shard as from_shard}
use Rattle.calls.specs.declared.reply.CoordinatorReply.TheVariants as told
use Rattle.calls.specs.declared.reply.ShardReply.TheVariants as told_by
use Rattle.care_flow.specs.declared.end.CareEnd.{CareEnd}
use Rattle.care_flow.specs.Ends.{ended_by}
use Rattle.care_flow.specs.Views.{CareView, out, over}

-- its one call
pub data FlushStep : Type 0 where
  flush : FlushStep

-- it holds nothing
abbrev pub FlushView : Type 0
FlushView = CareView (Unit {0}) FlushStep

-- of this node, by a checkpoint or by what it has staged
pub record FlushFlowValue : Type 0 where
  pub node : NodeName
  pub is_checkpoint : Bool
  pub seen : FlushView

-- what its call is called
abbrev pub name_of : Bool → FlushStep → CallName
name_of false flush = names.Flush
name_of true flush = names.Checkpoint

-- the node is there in a store of this many shards
abbrev pub IsThere : ℕ → NodeName → Type 0
IsThere shards Coordinator = Unit {0}
IsThere shards (Shard s) = s < shards

-- the node's flush, or its checkpoint
abbrev pub flush_of : Bool → NodeName → NodeCall
flush_of false Coordinator = of_coordinator coordinator_calls.Flush
flush_of false (Shard s) = of_shard s shard_calls.Flush
flush_of true Coordinator = of_coordinator coordinator_calls.Checkpoint
flush_of true (Shard s) = of_shard s shard_calls.Checkpoint

-- the reply is one to the flush of the node, or to its checkpoint
abbrev pub Fits : Bool → NodeName → Reply → Type 0
Fits false Coordinator (from_coordinator (told.Flush r)) = Unit {0}
Fits false (Shard s) (from_shard (told_by.Flush r)) = Unit {0}
Fits true Coordinator (from_coordinator (told.Checkpoint r)) = Unit {0}
Fits true (Shard s) (from_shard (told_by.Checkpoint r)) = Unit {0}
Fits is_checkpoint node reply = ⊥

-- it ends by the answer
abbrev pub Gives : Bool → NodeName → Reply → CareEnd → Type 0
Gives false Coordinator (from_coordinator (told.Flush r)) end = end ≡ ended_by r
Gives false (Shard s) (from_shard (told_by.Flush r)) end = end ≡ ended_by r
Gives true Coordinator (from_coordinator (told.Checkpoint r)) end = end ≡ ended_by r
Gives true (Shard s) (from_shard (told_by.Checkpoint r)) end = end ≡ ended_by r
Gives is_checkpoint node reply end = ⊥

-- Its next call, if there is one.
abbrev pub NextCall : FlushFlowValue → Option NodeCall → FlushFlowValue → Type 0
NextCall old result new = MatchOption old.seen.next ((result ≡ None) × (new.seen ≡ old.seen)) (λ step. (result ≡ Some (flush_of old.is_checkpoint old.node)) × (new.seen ≡ out tt flush))

-- It waits for such a reply.
abbrev pub Awaits : FlushFlowValue → Reply → Type 0
Awaits v reply = MatchOption v.seen.awaited ⊥ (λ step. Fits v.is_checkpoint v.node reply)

-- What the reply makes of it.
abbrev pub Answered : FlushFlowValue → Reply → FlushFlowValue → Type 0
Answered old reply new = (end : CareEnd) × Gives old.is_checkpoint old.node reply end × (new.seen ≡ over tt end)
