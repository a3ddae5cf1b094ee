-- The calls of a shard's collection, and what each reply makes of it.
use Rattle.std.specs.Prelude.{◌≡◌, ◌≢◌, ◌⊎◌, ℕ, Bool, true, false, Option, Some, None, Result, Ok, Err, MatchOption}
use Rattle.refusal.specs.declared.refusal.Refusal.{Refusal}
use Rattle.refusal.specs.declared.refusal.Refusal.TheVariants.{Full}
use Rattle.decisions.specs.Values.{HeadsValue}
use Rattle.decisions.specs.Flows.{HeadsHeld, no_heads}
use Rattle.calls.specs.declared.call.NodeCall.{NodeCall}
use Rattle.calls.specs.declared.progress.Progress.{Progress}
use Rattle.calls.specs.declared.progress.Progress.TheVariants.{Next, Ended}
use Rattle.names.specs.declared.call_name.CallName.{CallName}
use Rattle.names.specs.declared.call_name.CallName.TheVariants as names
use Rattle.calls.specs.declared.call.NodeCall.TheVariants.{Coordinator as of_coordinator, Shard as of_shard}
use Rattle.calls.specs.declared.call.CoordinatorCall.TheVariants.{Heads}
use Rattle.calls.specs.declared.call.ShardCall.TheVariants.{Collect, Flush}
use Rattle.calls.specs.declared.reply.Reply.{Reply}
use Rattle.calls.specs.declared.reply.Reply.TheVariants.{Coordinator as from_coordinator, Shard as from_shard}
use Rattle.calls.specs.declared.reply.CoordinatorReply.TheVariants as told
use Rattle.calls.specs.declared.reply.ShardReply.TheVariants as told_by
use Rattle.care_flow.specs.declared.end.CareEnd.{CareEnd}
use Rattle.care_flow.specs.declared.end.CareEnd.TheVariants.{Refused}
use Rattle.care_flow.specs.Ends.{ended_by}
use Rattle.care_flow.specs.Views.{CareView, IsBehind, out, over, ready}

-- the heads are asked for; the shard collects by them, for the first time or again after a flush; that flush; and the flush after the collection
pub data CollectStep : Type 0 where
  ask : CollectStep
  collect : Bool → CollectStep
  flush_to_collect : CollectStep
  flush : CollectStep

abbrev pub CollectView : Type 0
CollectView = CareView HeadsHeld CollectStep

-- of this shard
pub record CollectFlowValue : Type 0 where
  pub shard : ℕ
  pub seen : CollectView

-- the name of the call of a step
abbrev pub name_of : CollectStep → CallName
name_of ask = names.Heads
name_of (collect again) = names.Collect
name_of flush_to_collect = names.Flush
name_of flush = names.Flush

-- Which call is made, with what is held: the shard collects by the heads that the coordinator answered.
abbrev pub Asks : ℕ → HeadsHeld → CollectStep → NodeCall → CollectView → Type 0
Asks s h ask call after = (call ≡ of_coordinator Heads) × (after ≡ out h ask)
Asks s h (collect again) call after = MatchOption h.heads ⊥ (λ heads. (call ≡ of_shard s (Collect heads)) × (after ≡ out (record h { heads = None }) (collect again)))
Asks s h flush_to_collect call after = (call ≡ of_shard s Flush) × (after ≡ out h flush_to_collect)
Asks s h flush call after = (call ≡ of_shard s Flush) × (after ≡ out h flush)

-- the reply is one to the call that is out
abbrev pub Fits : CollectStep → Reply → Type 0
Fits ask (from_coordinator (told.Heads r)) = Unit {0}
Fits (collect again) (from_shard (told_by.Collect heads r)) = Unit {0}
Fits flush_to_collect (from_shard (told_by.Flush r)) = Unit {0}
Fits flush (from_shard (told_by.Flush r)) = Unit {0}
Fits step reply = ⊥

-- it holds the heads
abbrev pub HeadsGive : HeadsHeld → Result HeadsValue Refusal → CollectView → Type 0
HeadsGive h (Ok heads) after = after ≡ ready (record h { heads = Some heads }) (collect false)
HeadsGive h (Err e) after = after ≡ over no_heads (Refused e)

-- the shard has collected, and is flushed; one that is full for the first time is flushed, and asked again with the heads that came back
abbrev pub CollectGives : HeadsHeld → Bool → HeadsValue → Result (Unit {0}) Refusal → CollectView → Type 0
CollectGives h again heads (Ok done) after = after ≡ ready h flush
CollectGives h again heads (Err e) after = (e ≡ Full → again ≡ false → after ≡ ready (record h { heads = Some heads }) flush_to_collect)
    × ((e ≢ Full) ⊎ (again ≡ true) → after ≡ over no_heads (Refused e))

-- the shard was flushed, and is asked again
abbrev pub FlushGives : HeadsHeld → Result (Unit {0}) Refusal → CollectView → Type 0
FlushGives h (Ok done) after = after ≡ ready h (collect true)
FlushGives h (Err e) after = after ≡ over no_heads (Refused e)

-- What a reply makes of it: it is done with the flush after the collection.
abbrev pub Gives : HeadsHeld → CollectStep → Reply → CollectView → Type 0
Gives h ask (from_coordinator (told.Heads r)) after = HeadsGive h r after
Gives h (collect again) (from_shard (told_by.Collect heads r)) after = CollectGives h again heads r after
Gives h flush_to_collect (from_shard (told_by.Flush r)) after = FlushGives h r after
Gives h flush (from_shard (told_by.Flush r)) after = after ≡ over no_heads (ended_by r)
Gives h step reply after = ⊥

-- Its next call, if there is one.
abbrev pub NextCall : CollectFlowValue → Option NodeCall → CollectFlowValue → Type 0
NextCall old result new = MatchOption old.seen.next ((result ≡ None) × (new.seen ≡ old.seen)) (λ step. MatchOption result ⊥ (λ call. Asks old.shard old.seen.holds step call new.seen))

-- It waits for such a reply.
abbrev pub Awaits : CollectFlowValue → Reply → Type 0
Awaits v reply = MatchOption v.seen.awaited ⊥ (λ step. Fits step reply)

-- What the reply makes of it.
abbrev pub Answered : CollectFlowValue → Reply → CollectFlowValue → Type 0
Answered old reply new = MatchOption old.seen.awaited ⊥ (λ step. Gives old.seen.holds step reply new.seen)

-- What is left of it: it waits for its next turn, or has ended.
abbrev pub Makes : CollectFlowValue → Reply → Progress CollectFlowValue CareEnd → Type 0
Makes old reply (Next new) = (new.shard ≡ old.shard) × Answered old reply new × IsBehind new.seen
Makes old reply (Ended end) = Answered old reply (record old { seen = over no_heads end })
