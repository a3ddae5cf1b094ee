-- The calls of a shard's learning, and what each reply makes of it.
use Rattle.std.specs.Prelude.{◌≡◌, ◌≤◌, ℕ, Option, Some, None, Result, Ok, Err, MatchOption}
use Rattle.refusal.specs.declared.refusal.Refusal.{Refusal}
use Rattle.decisions.specs.Values.{HeadsValue}
use Rattle.decisions.specs.Flows.{HeadsHeld, no_heads}
use Rattle.catch_up.specs.Held.{Awaited}
use Rattle.catch_up.specs.CatchingUp as catching
use Rattle.catch_up.specs.declared.caught.Progress as progresses
use Rattle.catch_up.specs.declared.caught.Progress.TheVariants.{Next, There, Refused as is_refused}
use Rattle.calls.specs.declared.call.NodeCall.{NodeCall}
use Rattle.calls.specs.declared.progress.Progress.{Progress}
use Rattle.calls.specs.declared.progress.Progress.TheVariants as made
use Rattle.names.specs.declared.call_name.CallName.{CallName}
use Rattle.calls.specs.declared.call.NodeCall.TheVariants.{Coordinator as of_coordinator}
use Rattle.calls.specs.declared.call.CoordinatorCall.TheVariants.{Heads}
use Rattle.calls.specs.declared.reply.Reply.{Reply}
use Rattle.calls.specs.declared.reply.Reply.TheVariants.{Coordinator as from_coordinator, Shard as from_shard}
use Rattle.calls.specs.declared.reply.CoordinatorReply.TheVariants as told
use Rattle.calls.specs.declared.reply.ShardReply.TheVariants as told_by
use Rattle.care_flow.specs.declared.end.CareEnd.{CareEnd}
use Rattle.care_flow.specs.declared.end.CareEnd.TheVariants.{Done, Refused}
use Rattle.care_flow.specs.CatchUps.{AsksToCatchUp, CatchUpGives, on_its_way}
use Rattle.care_flow.specs.Views.{CareView, IsBehind, out, over, ready}

-- the heads are asked for; the shard is caught up to their kept place, with the call of that which is out
pub data LearnStep : Type 0 where
  ask : LearnStep
  catch_up : Option Awaited → LearnStep

abbrev pub LearnView : Type 0
LearnView = CareView HeadsHeld LearnStep

-- of this shard, with the name of its next call, if there is one
pub record LearnFlowValue : Type 0 where
  pub shard : ℕ
  pub seen : LearnView
  pub next_name : Option CallName

-- Which call is made, with what is held: that of the heads, and then those that bring the shard to their kept place.
abbrev pub Asks : ℕ → HeadsHeld → LearnStep → NodeCall → LearnView → Type 0
Asks s h ask call after = (call ≡ of_coordinator Heads) × (after ≡ out h ask)
Asks s h (catch_up is_out) call after = MatchOption h.heads ⊥ (λ heads. AsksToCatchUp (on_its_way s heads.kept h.batch) call
    (λ batch awaited. after ≡ out (record h { batch = batch }) (catch_up (Some awaited))))

-- the reply is one to the call that is out
abbrev pub Fits : LearnStep → Reply → Type 0
Fits ask (from_coordinator (told.Heads r)) = Unit {0}
Fits (catch_up (Some awaited)) reply = catching.Fits awaited reply
Fits step reply = ⊥

-- it holds the heads
abbrev pub HeadsGive : HeadsHeld → Result HeadsValue Refusal → LearnView → Type 0
HeadsGive h (Ok heads) after = after ≡ ready (record h { heads = Some heads }) (catch_up None)
HeadsGive h (Err e) after = after ≡ over no_heads (Refused e)

-- it is done if the shard is there
abbrev pub ProgressGives : HeadsHeld → progresses.Progress → LearnView → Type 0
ProgressGives h (Next c) after = after ≡ ready (record h { batch = c.batch }) (catch_up None)
ProgressGives h There after = after ≡ over no_heads Done
ProgressGives h (is_refused e) after = after ≡ over no_heads (Refused e)

-- What a reply makes of it.
abbrev pub Gives : ℕ → HeadsHeld → LearnStep → Reply → LearnView → Type 0
Gives s h ask (from_coordinator (told.Heads r)) after = HeadsGive h r after
Gives s h (catch_up (Some awaited)) reply after = MatchOption h.heads ⊥ (λ heads. CatchUpGives (on_its_way s heads.kept h.batch) awaited reply (λ progress. ProgressGives h progress after))
Gives s h step reply after = ⊥

-- Its next call, if there is one.
abbrev pub NextCall : LearnFlowValue → Option NodeCall → LearnFlowValue → Type 0
NextCall old result new = MatchOption old.seen.next ((result ≡ None) × (new.seen ≡ old.seen)) (λ step. MatchOption result ⊥ (λ call. Asks old.shard old.seen.holds step call new.seen))

-- It waits for such a reply.
abbrev pub Awaits : LearnFlowValue → Reply → Type 0
Awaits v reply = MatchOption v.seen.awaited ⊥ (λ step. Fits step reply)

-- What the reply makes of it.
abbrev pub Answered : LearnFlowValue → Reply → LearnFlowValue → Type 0
Answered old reply new = MatchOption old.seen.awaited ⊥ (λ step. Gives old.shard old.seen.holds step reply new.seen)

-- What is left of it: it waits for its next turn, or has ended.
abbrev pub Makes : LearnFlowValue → Reply → Progress LearnFlowValue CareEnd → Type 0
Makes old reply (made.Next new) = (new.shard ≡ old.shard) × Answered old reply new × IsBehind new.seen
Makes old reply (made.Ended end) = Answered old reply (record old { seen = over no_heads end; next_name = None })

-- the shard has answered that it has learned up to the place
abbrev pub AnswersSoFar : ℕ → Reply → Type 0
AnswersSoFar to reply = (n : ℕ) × (reply ≡ from_shard (told_by.Learned (Ok n))) × (to ≤ n)

-- the shard has answered that it has learned up to the kept place of the heads
abbrev pub HasLearned : HeadsHeld → Reply → Type 0
HasLearned h reply = MatchOption h.heads ⊥ (λ heads. AnswersSoFar heads.kept reply)
