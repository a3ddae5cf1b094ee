-- Bringing a shard up to a place: which calls are made, and what each reply makes of it.
use Rattle.std.specs.Prelude.{◌≡◌, ◌≢◌, ◌⊎◌, ◌≤◌, ◌<◌, ℕ, Bool, true, false, Option, Some, None, Result, Ok, Err}
use Rattle.refusal.specs.declared.refusal.Refusal.{Refusal}
use Rattle.refusal.specs.declared.refusal.Refusal.TheVariants.{Collected, Full}
use Rattle.decisions.specs.Values.{BatchValue}
use Rattle.catch_up.specs.Held.{Awaited, CatchUpCallValue, CatchUpValue, decisions, flushing, learned, learning}
use Rattle.catch_up.specs.declared.caught.Progress.{Progress}
use Rattle.catch_up.specs.declared.caught.Progress.TheVariants.{Next, There, Refused}
use Rattle.names.specs.declared.call_name.CallName.TheVariants as names
use Rattle.calls.specs.declared.call.NodeCall.{NodeCall}
use Rattle.calls.specs.declared.call.NodeCall.TheVariants.{Coordinator, Shard}
use Rattle.calls.specs.declared.call.CoordinatorCall.{CoordinatorCall}
use Rattle.calls.specs.declared.call.CoordinatorCall.TheVariants.{Batch}
use Rattle.calls.specs.declared.call.ShardCall.{ShardCall}
use Rattle.calls.specs.declared.call.ShardCall.TheVariants.{Learned, Learn, Flush}
use Rattle.calls.specs.declared.reply.Reply.{Reply}
use Rattle.calls.specs.declared.reply.Reply.TheVariants.{Coordinator as from_coordinator, Shard as from_shard}
use Rattle.calls.specs.declared.reply.CoordinatorReply.{CoordinatorReply}
use Rattle.calls.specs.declared.reply.CoordinatorReply.TheVariants.{Batch as batch_reply}
use Rattle.calls.specs.declared.reply.ShardReply.{ShardReply}
use Rattle.calls.specs.declared.reply.ShardReply.TheVariants.{Learned as learned_reply, Learn as learn_reply, Flush as flush_reply}

-- What comes next: the shard is asked how far it has learned; decisions are fetched from after a place; they are handed to a shard that was flushed for
-- them, or was not; they wait for its flush.
abbrev pub to_ask : CatchUpValue → CatchUpValue
to_ask v = record v { batch = None; next = names.Learned; from = None; flushed = false }

abbrev pub to_fetch : ℕ → CatchUpValue → CatchUpValue
to_fetch place v = record v { batch = None; next = names.Batch; from = Some place; flushed = false }

abbrev pub to_hand_over : Option BatchValue → Bool → CatchUpValue → CatchUpValue
to_hand_over batch flushed v = record v { batch = batch; next = names.Learn; from = None; flushed = flushed }

abbrev pub to_flush : BatchValue → CatchUpValue → CatchUpValue
to_flush batch v = record v { batch = Some batch; next = names.Flush; from = None; flushed = false }

-- a call of the shard: it is asked how far it has learned, or is handed the decisions that are held, for the first time or after a flush, or it is flushed
abbrev pub AsksShard : CatchUpValue → ShardCall → CatchUpCallValue → Type 0
AsksShard v Learned after = after ≡ record { held = v; awaited = learned }
AsksShard v (Learn batch) after = (v.batch ≡ Some batch) × (after ≡ record { held = record v { batch = None; flushed = false }; awaited = learning v.flushed })
AsksShard v Flush after = after ≡ record { held = v; awaited = flushing }
AsksShard v call after = ⊥

-- a call of the coordinator: it is asked for the decisions after the place that the shard answered, up to the one to which it is brought
abbrev pub AsksCoordinator : CatchUpValue → CoordinatorCall → CatchUpCallValue → Type 0
AsksCoordinator v (Batch from to) after = (v.from ≡ Some from) × (from < to) × (to ≡ v.to) × (after ≡ record { held = record v { from = None }; awaited = decisions })
AsksCoordinator v call after = ⊥

-- which call is made next, and what is held then
abbrev pub Asks : CatchUpValue → NodeCall → CatchUpCallValue → Type 0
Asks v (Coordinator call) after = AsksCoordinator v call after
Asks v (Shard s call) after = (s ≡ v.shard) × AsksShard v call after

-- the reply is one to the call that is out
abbrev pub FitsShard : Awaited → ShardReply → Type 0
FitsShard learned (learned_reply r) = Unit {0}
FitsShard (learning again) (learn_reply batch r) = Unit {0}
FitsShard flushing (flush_reply r) = Unit {0}
FitsShard awaited reply = ⊥

abbrev pub FitsCoordinator : Awaited → CoordinatorReply → Type 0
FitsCoordinator decisions (batch_reply r) = Unit {0}
FitsCoordinator awaited reply = ⊥

abbrev pub Fits : Awaited → Reply → Type 0
Fits awaited (from_coordinator reply) = FitsCoordinator awaited reply
Fits awaited (from_shard reply) = FitsShard awaited reply

-- the shard has answered how far it has learned: it is there, or below the place, and decisions are fetched from there on
abbrev pub LearnedGives : CatchUpValue → Result ℕ Refusal → Progress → Type 0
LearnedGives v (Ok n) progress = (v.to ≤ n → progress ≡ There) × (n < v.to → progress ≡ Next (to_fetch n v))
LearnedGives v (Err e) progress = progress ≡ Refused e

-- decisions came; if those after the place are forgotten, the shard is asked again
abbrev pub BatchGives : CatchUpValue → Result BatchValue Refusal → Progress → Type 0
BatchGives v (Ok b) progress = progress ≡ Next (to_hand_over (Some b) false v)
BatchGives v (Err e) progress = (e ≡ Collected → progress ≡ Next (to_ask v)) × (e ≢ Collected → progress ≡ Refused e)

-- the shard has learned, and is asked again; if it is full for the first time, the decisions wait for a flush
abbrev pub LearnGives : CatchUpValue → Awaited → BatchValue → Result Bool Refusal → Progress → Type 0
LearnGives v awaited b (Ok is_known) progress = progress ≡ Next (to_ask v)
LearnGives v awaited b (Err e) progress = (e ≡ Full → awaited ≡ learning false → progress ≡ Next (to_flush b v))
    × ((e ≢ Full) ⊎ (awaited ≡ learning true) → progress ≡ Refused e)

-- the shard was flushed, and is handed the decisions again
abbrev pub FlushGives : CatchUpValue → Result (Unit {0}) Refusal → Progress → Type 0
FlushGives v (Ok done) progress = progress ≡ Next (to_hand_over v.batch true v)
FlushGives v (Err e) progress = progress ≡ Refused e

abbrev pub GivesShard : CatchUpCallValue → ShardReply → Progress → Type 0
GivesShard c (learned_reply r) progress = LearnedGives c.held r progress
GivesShard c (learn_reply batch r) progress = LearnGives c.held c.awaited batch r progress
GivesShard c (flush_reply r) progress = FlushGives c.held r progress
GivesShard c reply progress = ⊥

abbrev pub GivesCoordinator : CatchUpCallValue → CoordinatorReply → Progress → Type 0
GivesCoordinator c (batch_reply r) progress = BatchGives c.held r progress
GivesCoordinator c reply progress = ⊥

-- what a reply to the call makes of it
abbrev pub Gives : CatchUpCallValue → Reply → Progress → Type 0
Gives c (from_coordinator reply) progress = GivesCoordinator c reply progress
Gives c (from_shard reply) progress = GivesShard c reply progress
