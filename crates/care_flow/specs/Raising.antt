-- The calls of a raise of the horizon, and what each reply makes of it.
use Rattle.std.specs.Prelude.{◌≡◌, ◌≢◌, ◌⊎◌, ◌≤◌, ◌<◌, ◌+◌, ◌++◌, ℕ, Bool, true, false, [], ◌∷◌, Option, Some, None, Result, Ok, Err, MatchOption, IfErr}
use Rattle.std.specs.Global.{Vec}
use Rattle.refusal.specs.declared.refusal.Refusal.{Refusal}
use Rattle.refusal.specs.declared.refusal.Refusal.TheVariants.{Full, Future, NoMemory}
use Rattle.decisions.specs.Values.{HeadsValue, SettledValue}
use Rattle.decisions.specs.Coordinators.{HaveSettled}
use Rattle.decisions.specs.Flows.{RaiseHolds, nothing_raised}
use Rattle.coordinator.specs.declared.raising.NotRaised.{NotRaised}
use Rattle.catch_up.specs.Held.{Awaited}
use Rattle.catch_up.specs.CatchingUp as catching
use Rattle.catch_up.specs.declared.caught.Progress as progresses
use Rattle.catch_up.specs.declared.caught.Progress.TheVariants.{Next, There, Refused as is_refused}
use Rattle.calls.specs.declared.call.NodeCall.{NodeCall}
use Rattle.calls.specs.declared.progress.Progress.{Progress}
use Rattle.calls.specs.declared.progress.Progress.TheVariants as made
use Rattle.names.specs.declared.call_name.CallName.{CallName}
use Rattle.calls.specs.declared.call.NodeCall.TheVariants.{Coordinator as of_coordinator, Shard as of_shard}
use Rattle.calls.specs.declared.call.CoordinatorCall.TheVariants.{Heads, Raise, Flush}
use Rattle.calls.specs.declared.call.ShardCall.TheVariants.{Settle, Flush as flush_shard}
use Rattle.calls.specs.declared.reply.Reply.{Reply}
use Rattle.calls.specs.declared.reply.Reply.TheVariants.{Coordinator as from_coordinator, Shard as from_shard}
use Rattle.calls.specs.declared.reply.CoordinatorReply.TheVariants as told
use Rattle.calls.specs.declared.reply.ShardReply.TheVariants as told_by
use Rattle.care_flow.specs.declared.end.CareEnd.{CareEnd}
use Rattle.care_flow.specs.declared.end.CareEnd.TheVariants.{Refused}
use Rattle.care_flow.specs.Ends.{ended_by}
use Rattle.care_flow.specs.CatchUps.{AsksToCatchUp, CatchUpGives, on_its_way}
use Rattle.care_flow.specs.Views.{CareView, IsBehind, out, over, ready}

-- The heads are asked for, after a flush of the coordinator if they do not reach the place; each shard is caught up, with the call of that which is out, is
-- flushed and answers what it has settled; the coordinator raises the horizon, for the first time or again after a flush; that flush; and the flush after
-- the raise.
pub data RaiseStep : Type 0 where
  ask : RaiseStep
  flush_to_ask : RaiseStep
  catch_up : ℕ → Option Awaited → RaiseStep
  flush : ℕ → RaiseStep
  settle : ℕ → RaiseStep
  raise : Bool → RaiseStep
  flush_to_raise : RaiseStep
  flush_raised : RaiseStep

abbrev pub RaiseView : Type 0
RaiseView = CareView RaiseHolds RaiseStep

-- to this place, in a store of this many shards, with the name of its next call, if there is one
pub record RaiseFlowValue : Type 0 where
  pub shards : ℕ
  pub place : ℕ
  pub seen : RaiseView
  pub next_name : Option CallName

-- Which call is made, with what is held. The horizon is raised only by what each shard has settled, at or above the place, and the
-- last flush comes only after the raise.
abbrev pub Asks : ℕ → ℕ → RaiseHolds → RaiseStep → NodeCall → RaiseView → Type 0
Asks shards place h ask call after = (call ≡ of_coordinator Heads) × (after ≡ out h ask)
Asks shards place h flush_to_ask call after = (call ≡ of_coordinator Flush) × (after ≡ out h flush_to_ask)
Asks shards place h (catch_up s is_out) call after = MatchOption h.heads ⊥ (λ heads. AsksToCatchUp (on_its_way s heads.kept h.batch) call
    (λ batch awaited. after ≡ out (record h { batch = batch }) (catch_up s (Some awaited))))
Asks shards place h (flush s) call after = (call ≡ of_shard s flush_shard) × (after ≡ out h (flush s))
Asks shards place h (settle s) call after = (call ≡ of_shard s Settle) × (after ≡ out h (settle s))
Asks shards place h (raise again) call after = HaveSettled shards place h.settled
    × ((all : Vec SettledValue) × (all.items ≡ h.settled) × (call ≡ of_coordinator (Raise place all)) × (after ≡ out (record h { settled = [] }) (raise again)))
Asks shards place h flush_to_raise call after = (call ≡ of_coordinator Flush) × (after ≡ out h flush_to_raise)
Asks shards place h flush_raised call after = (h.is_raised ≡ true) × (call ≡ of_coordinator Flush) × (after ≡ out h flush_raised)

-- the reply is one to the call that is out, and gives back what was handed in
abbrev pub Fits : ℕ → ℕ → RaiseStep → Reply → Type 0
Fits shards place ask (from_coordinator (told.Heads r)) = Unit {0}
Fits shards place flush_to_ask (from_coordinator (told.Flush r)) = Unit {0}
Fits shards place (catch_up s (Some awaited)) reply = catching.Fits awaited reply
Fits shards place (flush s) (from_shard (told_by.Flush r)) = Unit {0}
Fits shards place (settle s) (from_shard (told_by.Settle r)) = Unit {0}
Fits shards place (raise again) (from_coordinator (told.Raise r)) = IfErr r (λ back. HaveSettled shards place back.settled.items)
Fits shards place flush_to_raise (from_coordinator (told.Flush r)) = Unit {0}
Fits shards place flush_raised (from_coordinator (told.Flush r)) = Unit {0}
Fits shards place step reply = ⊥

-- it ends with a refusal
abbrev pub EndsRefused : Refusal → RaiseView → Type 0
EndsRefused e after = after ≡ over nothing_raised (Refused e)

-- it goes on to this shard, and after the last one to the raise
abbrev pub GoesRound : ℕ → RaiseHolds → ℕ → RaiseView → Type 0
GoesRound shards h s after = (s < shards → after ≡ ready h (catch_up s None)) × (shards ≤ s → after ≡ ready h (raise false))

-- Heads that reach the place are held, if there is memory for what the shards will have settled. The coordinator is flushed if its log reaches the place
-- and is not kept so far, and no log reaches a place above its length.
pub record AnsweredHeads (shards place : ℕ) (h : RaiseHolds) (heads : HeadsValue) (after : RaiseView) : Type 0 where
  pub reaches : place ≤ heads.kept → GoesRound shards (record h { heads = Some heads }) 0 after ⊎ EndsRefused NoMemory after
  pub staged : heads.kept < place → place ≤ heads.length → after ≡ ready h flush_to_ask
  pub above : heads.kept < place → heads.length < place → EndsRefused Future after

abbrev pub HeadsGive : ℕ → ℕ → RaiseHolds → Result HeadsValue Refusal → RaiseView → Type 0
HeadsGive shards place h (Ok heads) after = AnsweredHeads shards place h heads after
HeadsGive shards place h (Err e) after = EndsRefused e after

-- a flush leads to what comes after it
abbrev pub FlushGives : Result (Unit {0}) Refusal → RaiseView → RaiseView → Type 0
FlushGives (Ok done) behind after = after ≡ behind
FlushGives (Err e) behind after = EndsRefused e after

-- the shard is flushed if it is there
abbrev pub ProgressGives : RaiseHolds → ℕ → progresses.Progress → RaiseView → Type 0
ProgressGives h s (Next c) after = after ≡ ready (record h { batch = c.batch }) (catch_up s None)
ProgressGives h s There after = after ≡ ready (record h { batch = None }) (flush s)
ProgressGives h s (is_refused e) after = EndsRefused e after

-- What the shard has settled is held if it reaches the place; if it does not, since the shard was opened again, or is not that shard's, the shard
-- begins again.
abbrev pub SettleGives : ℕ → ℕ → RaiseHolds → ℕ → Result SettledValue Refusal → RaiseView → Type 0
SettleGives shards place h s (Ok v) after = (v.shard ≡ s → place ≤ v.place → GoesRound shards (record h { settled = h.settled ++ v ∷ [] }) (s + 1) after)
    × ((v.shard ≢ s) ⊎ (v.place < place) → after ≡ ready h (catch_up s None))
SettleGives shards place h s (Err e) after = EndsRefused e after

-- the horizon is raised, and the coordinator is flushed; one that is full for the first time is flushed, and asked again with what came back
abbrev pub RaiseGives : RaiseHolds → Bool → Result (Unit {0}) NotRaised → RaiseView → Type 0
RaiseGives h again (Ok done) after = after ≡ ready (record h { is_raised = true }) flush_raised
RaiseGives h again (Err back) after = (back.refusal ≡ Full → again ≡ false → after ≡ ready (record h { settled = back.settled.items }) flush_to_raise)
    × ((back.refusal ≢ Full) ⊎ (again ≡ true) → EndsRefused back.refusal after)

-- What a reply makes of it: it is done with the flush after the raise.
abbrev pub Gives : ℕ → ℕ → RaiseHolds → RaiseStep → Reply → RaiseView → Type 0
Gives shards place h ask (from_coordinator (told.Heads r)) after = HeadsGive shards place h r after
Gives shards place h flush_to_ask (from_coordinator (told.Flush r)) after = FlushGives r (ready h ask) after
Gives shards place h (catch_up s (Some awaited)) reply after = MatchOption h.heads ⊥
    (λ heads. CatchUpGives (on_its_way s heads.kept h.batch) awaited reply (λ progress. ProgressGives h s progress after))
Gives shards place h (flush s) (from_shard (told_by.Flush r)) after = FlushGives r (ready h (settle s)) after
Gives shards place h (settle s) (from_shard (told_by.Settle r)) after = SettleGives shards place h s r after
Gives shards place h (raise again) (from_coordinator (told.Raise r)) after = RaiseGives h again r after
Gives shards place h flush_to_raise (from_coordinator (told.Flush r)) after = FlushGives r (ready h (raise true)) after
Gives shards place h flush_raised (from_coordinator (told.Flush r)) after = after ≡ over nothing_raised (ended_by r)
Gives shards place h step reply after = ⊥

-- Its next call, if there is one.
abbrev pub NextCall : RaiseFlowValue → Option NodeCall → RaiseFlowValue → Type 0
NextCall old result new = MatchOption old.seen.next ((result ≡ None) × (new.seen ≡ old.seen)) (λ step. MatchOption result ⊥ (λ call. Asks old.shards old.place old.seen.holds step call new.seen))

-- It waits for such a reply.
abbrev pub Awaits : RaiseFlowValue → Reply → Type 0
Awaits v reply = MatchOption v.seen.awaited ⊥ (λ step. Fits v.shards v.place step reply)

-- What the reply makes of it.
abbrev pub Answered : RaiseFlowValue → Reply → RaiseFlowValue → Type 0
Answered old reply new = MatchOption old.seen.awaited ⊥ (λ step. Gives old.shards old.place old.seen.holds step reply new.seen)

-- What is left of it: it waits for its next turn, or has ended.
abbrev pub Makes : RaiseFlowValue → Reply → Progress RaiseFlowValue CareEnd → Type 0
Makes old reply (made.Next new) = (new.shards ≡ old.shards) × (new.place ≡ old.place) × Answered old reply new × IsBehind new.seen
Makes old reply (made.Ended end) = Answered old reply (record old { seen = over nothing_raised end; next_name = None })
