-- A catch-up in a flow that answers a request: what it makes of a reply does not depend on the shard that it names.
use Rattle.std.proofs.Common.{◌≡◌, ◌≤◌, ℕ, Bool, List, Option, Ok, Err, sym, ◌∙◌, ap, subst}
use Rattle.flow_turns.proofs.AnswerWords.{Answered, BatchValue, CatchUpComes, FitsItsTypes, IsCalled, IsCatchingUp, Moment, Next, NodeCall, NodeView, Progress, Reply, Running, StandsOver, State, Store, There, called, from_coordinator, from_shard, left}
use Rattle.names.specs.declared.call_name.CallName.{CallName}
use Rattle.calls.specs.declared.reply.CoordinatorReply.TheVariants as told
use Rattle.calls.specs.declared.reply.ShardReply.TheVariants as told_by
use Rattle.catch_up.specs.CatchingUp.{Asks, Gives}
use Rattle.catch_up.specs.Held.{Awaited, CatchUpCallValue, CatchUpValue}
use Rattle.catch_up.specs.declared.caught.Progress.TheVariants.{Refused}
use Rattle.flow_turns.proofs.CaughtUp.{caught_up, same_way}

-- progress of the same catch-up of this shard
abbrev pub moved : ℕ → Progress → Progress
moved s (Next c) = Next (record c { shard = s })
moved s There = There
moved s (Refused e) = Refused e

whichever_shard : (call : CatchUpCallValue) (s : ℕ) (name : CallName) (from : Option ℕ) (flushed : Bool) (reply : Reply) (progress : Progress) → Gives call reply progress
    → Gives (record { held = record call.held { shard = s; next = name; from = from; flushed = flushed }; awaited = call.awaited }) reply (moved s progress)
whichever_shard call s name from flushed (from_coordinator (told.Batch (Ok b))) progress gives = ap (moved s) gives
whichever_shard call s name from flushed (from_coordinator (told.Batch (Err e))) progress gives = (λ is. ap (moved s) (gives.0 is), λ other. ap (moved s) (gives.1 other))
whichever_shard call s name from flushed (from_coordinator reply) progress gives = absurd gives
whichever_shard call s name from flushed (from_shard (told_by.Learned (Ok n))) progress gives = (λ there. ap (moved s) (gives.0 there), λ below. ap (moved s) (gives.1 below))
whichever_shard call s name from flushed (from_shard (told_by.Learned (Err e))) progress gives = ap (moved s) gives
whichever_shard call s name from flushed (from_shard (told_by.Learn b (Ok k))) progress gives = ap (moved s) gives
whichever_shard call s name from flushed (from_shard (told_by.Learn b (Err e))) progress gives = (λ full first. ap (moved s) (gives.0 full first), λ other. ap (moved s) (gives.1 other))
whichever_shard call s name from flushed (from_shard (told_by.Flush (Ok done))) progress gives = ap (moved s) gives
whichever_shard call s name from flushed (from_shard (told_by.Flush (Err e))) progress gives = ap (moved s) gives
whichever_shard call s name from flushed (from_shard reply) progress gives = absurd gives

module _ {D : Type 0} (state : D → State) (honest : D → Type 0) (moment : D → ℕ) (left_since : D → ℕ → List ℕ → Type 0)
    (counts_now : (d : D) (t : ℕ) (c : List ℕ) → honest d → t ≤ moment d → left (state d) c → left_since d t c) (only_now : (d : D) (c : List ℕ) → honest d → left_since d (moment d) c → left (state d) c)
    (store shards : ℕ) (old new : Store D) where
  module _ (way : CatchUpValue) (call : NodeCall) (then given : CatchUpCallValue) (asks : Asks way call then) (awaited_is : given.awaited ≡ then.awaited) (to_is : given.held.to ≡ way.to)
      (batch_is : given.held.batch ≡ then.held.batch) where
    abbrev with_them : ℕ → Option BatchValue → Awaited → CatchUpCallValue
    with_them to batch awaited = record { held = record { shard = way.shard; to = to; batch = batch; next = then.held.next; from = then.held.from; flushed = then.held.flushed }; awaited = awaited }

    same : then ≡ with_them given.held.to given.held.batch given.awaited
    same = ap (λ (h : CatchUpValue). record { held = h; awaited = then.awaited }) (same_way way call then asks)
        ∙ ap (λ (n : ℕ). with_them n then.held.batch then.awaited) (sym to_is)
        ∙ ap (λ (b : Option BatchValue). with_them given.held.to b then.awaited) (sym batch_is)
        ∙ ap (λ (a : Awaited). with_them given.held.to given.held.batch a) (sym awaited_is)

    -- what a call of the catch-up came to, if what is held of it while the call is out is known except for the shard
    pub came : (reply : Reply) (progress : Progress) (was is : NodeView D) → FitsItsTypes call → IsCalled state honest moment left_since store shards (called call) was is old new
        → Answered state honest moment left_since was call reply is → Gives given reply progress
        → (now : Moment) (standing : StandsOver state honest store shards old now) (r : Running) → IsCatchingUp state honest moment left_since counts_now only_now store shards old new now standing r way
        → CatchUpComes state honest moment left_since counts_now only_now store shards old new now standing r way.shard way.to (moved way.shard progress)
    came reply progress was is fits c so gives now standing r on =
        caught_up state honest moment left_since counts_now only_now store shards old new now standing r way on call then reply (moved way.shard progress) was is asks fits c so
        (subst (λ (t : CatchUpCallValue). Gives t reply (moved way.shard progress)) (sym same) (whichever_shard given way.shard then.held.next then.held.from then.held.flushed reply progress gives))
