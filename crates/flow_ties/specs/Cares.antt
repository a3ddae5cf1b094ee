-- What a care of a store's nodes holds of the list and of the horizon that were seen.
use Rattle.std.specs.Prelude.{◌≡◌, ◌≤◌, ℕ, List, Option, Some, None, Ok}
use mathlib.Core.List.{IsPrefix}
use Rattle.tuples.specs.declared.entry.Entry.{Entry}
use Rattle.decisions.specs.Values.{BatchValue, HeadsValue}
use Rattle.names.specs.declared.care.Care.{Care}
use Rattle.calls.specs.Belonging.{IsReplyTo}
use Rattle.calls.specs.declared.call.NodeCall.{NodeCall}
use Rattle.calls.specs.declared.call.NodeCall.TheVariants.{Coordinator, Shard}
use Rattle.calls.specs.declared.call.CoordinatorCall.TheVariants.{Heads}
use Rattle.calls.specs.declared.call.ShardCall.TheVariants as shard_calls
use Rattle.calls.specs.declared.reply.Reply.{Reply}
use Rattle.calls.specs.declared.reply.Reply.TheVariants.{Coordinator as from_coordinator}
use Rattle.calls.specs.declared.reply.CoordinatorReply.TheVariants as told
use Rattle.care_flow.specs.declared.care.CareFlow.{CareFlow}
use Rattle.care_flow.specs.declared.care.CareFlow.TheVariants.{Collect, Flush, Learn, Raise, Resolve}
use Rattle.care_flow.specs.Cares.{AsksCare, GivesCare, begun}
use Rattle.ties.specs.TellingLaws.{IsBatchOf}
use Rattle.flow_ties.specs.Telling.{IsHeld, IsTold}

-- the decisions on their way to a shard
abbrev pub on_the_way : CareFlow → Option BatchValue
on_the_way (Flush v) = None
on_the_way (Learn v) = v.seen.holds.batch
on_the_way (Resolve v) = v.seen.holds.batch
on_the_way (Raise v) = v.seen.holds.batch
on_the_way (Collect v) = None

-- the heads by which a shard is to collect
abbrev pub to_collect_by : CareFlow → Option HeadsValue
to_collect_by (Flush v) = None
to_collect_by (Learn v) = None
to_collect_by (Resolve v) = None
to_collect_by (Raise v) = None
to_collect_by (Collect v) = v.seen.holds.heads

-- A care is of the list, with a horizon that was seen: what it has for a shard is a part of the list, and a shard collects up to no higher horizon.
pub record IsCareOf (seen : List Entry) (low : ℕ) (care : CareFlow) : Type 0 where
  pub batch : IsHeld seen (on_the_way care)
  pub heads : (h : HeadsValue) → to_collect_by care ≡ Some h → h.horizon ≤ low

-- heads tell a horizon that was seen
abbrev pub TellsCare : ℕ → NodeCall → Reply → Type 0
TellsCare low (Coordinator Heads) (from_coordinator (told.Heads (Ok h))) = h.horizon ≤ low
TellsCare low call reply = Unit {0}

-- what it hands to a shard is of the list, or of the horizon
abbrev pub HandsOver : List Entry → ℕ → NodeCall → Type 0
HandsOver seen low (Shard s (shard_calls.Learn b)) = IsBatchOf seen b
HandsOver seen low (Shard s (shard_calls.Collect h)) = h.horizon ≤ low
HandsOver seen low call = Unit {0}

abbrev pub CaresBegin : Type 0
CaresBegin = (shards : ℕ) (care : Care) (seen : List Entry) (low : ℕ) → IsCareOf seen low (begun shards care)

-- a longer list is as good, and so is a later horizon
abbrev pub CaresStaySeen : Type 0
CaresStaySeen = (seen longer : List Entry) (low later : ℕ) (v : CareFlow) → IsPrefix seen longer → low ≤ later → IsCareOf seen low v → IsCareOf longer later v

abbrev pub CaresHandOverWhatIsSeen : Type 0
CaresHandOverWhatIsSeen = (seen : List Entry) (low : ℕ) (v out : CareFlow) (call : NodeCall) → IsCareOf seen low v → AsksCare v call out → HandsOver seen low call

-- A turn: a call, the reply to it, which tells what is of the list and of the horizon as they were seen then, and what the care makes of it.
pub record CareTurns (shards : ℕ) (seen : List Entry) (low : ℕ) (v after : CareFlow) : Type 0 where
  pub call : NodeCall
  pub out : CareFlow
  pub reply : Reply
  pub asks : AsksCare v call out
  pub belongs : IsReplyTo call reply
  pub told : IsTold shards seen call reply
  pub tells : TellsCare low call reply
  pub gives : GivesCare out reply after

abbrev pub CaresGoOn : Type 0
CaresGoOn = (shards : ℕ) (seen longer : List Entry) (low later : ℕ) (v after : CareFlow) → IsPrefix seen longer → low ≤ later → IsCareOf seen low v → CareTurns shards longer later v after
    → IsCareOf longer later after
