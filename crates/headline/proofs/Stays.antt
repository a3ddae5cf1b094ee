-- A node of a store that stands keeps its name, whatever it is asked.
use Rattle.std.proofs.Common.{◌≡◌, ◌⊎◌, ⊎_elim, true, false, ℕ, List, Ok, Err, sym, ◌∙◌, ap, subst}
use Rattle.std.proofs.lemmas.Bool.{cases_Bool}
use Rattle.headline.proofs.Words.{Answered, Coordinator, Down, Identity, IsNamed, IsNode, Moment, NodeCall, NodeName, NodeView, Reply, Shard, StandsOver, State, Store, coordinator, from_coordinator, from_shard, shard}
use Rattle.decisions.specs.Coordinators.{CoordinatorView, IsRunning}
use Rattle.shard.specs.Shards.{ShardView}
use Rattle.calls.specs.Asking.{CoordinatorAnswers}
use Rattle.calls.specs.Views as views
use Rattle.calls.specs.declared.call.CoordinatorCall.{CoordinatorCall}
use Rattle.calls.specs.declared.call.CoordinatorCall.TheVariants.{Begin, Heads, Batch, Decide, Outcome, Abort, Inquire, Raise, Flush, Checkpoint}
use Rattle.calls.specs.declared.reply.CoordinatorReply.{CoordinatorReply}
use Rattle.calls.specs.declared.reply.CoordinatorReply.TheVariants as told
use Rattle.calls.proofs.Belonging.{shard_stays}
use Rattle.flow_turns.proofs.Standing.{runs_now}

module _ {D : Type 0} (state : D → State) (honest : D → Type 0) (moment : D → ℕ) (left_since : D → ℕ → List ℕ → Type 0) where
  abbrev me_of : CoordinatorView D → Identity
  me_of v = v.me

  -- one that is up runs
  abbrev IsSound : CoordinatorView D → Type 0
  IsSound v = v.is_down ≡ false → IsRunning state honest v

  up_or_down : (v : CoordinatorView D) → (v.is_down ≡ true) ⊎ (v.is_down ≡ false)
  up_or_down v = cases_Bool v.is_down

  stays : (v w : CoordinatorView D) (call : CoordinatorCall) (reply : CoordinatorReply) → IsSound v → CoordinatorAnswers state honest moment left_since v call reply w → w.me ≡ v.me
  stays v w (Begin write) (told.Begin (Ok i)) sound a = ⊎_elim (λ is. absurd (let bad : Ok i ≡ Err Down = a.down.1 is in cc)) (λ up. ap me_of ((a.ok (sound up)).0.new_is)) (up_or_down v)
  stays v w (Begin write) (told.Begin (Err e)) sound a = ap me_of a.err.0
  stays v w Heads (told.Heads r) sound a = ap me_of a.0
  stays v w (Batch from to) (told.Batch r) sound a = ap me_of a.0
  stays v w (Decide intent votes) (told.Decide (Ok d)) sound a = ⊎_elim (λ is. absurd (let bad : false ≡ true = a.was_up is in cc)) (λ up. ap me_of ((a.ok (sound up)).0.new_is)) (up_or_down v)
  stays v w (Decide intent votes) (told.Decide (Err e)) sound a = ap me_of a.same
  stays v w (Outcome decided) (told.Outcome r) sound a = ap me_of a.0
  stays v w (Abort intent) (told.Abort (Ok verdict)) sound a = ⊎_elim (λ is. absurd (let bad : Ok verdict ≡ Err Down = a.down.1 is in cc)) (λ up. ap me_of ((a.ok (sound up)).1.new_is)) (up_or_down v)
  stays v w (Abort intent) (told.Abort (Err e)) sound a = ap me_of a.err.0
  stays v w (Inquire id) (told.Inquire r) sound a = ap me_of a.0
  stays v w (Raise place settled) (told.Raise (Ok done)) sound a =
      ⊎_elim (λ is. absurd (let bad : false ≡ true = a.was_up is in cc)) (λ up. ⊎_elim (λ one. ap me_of one.1) (λ same. ap me_of same.1) ((a.ok (sound up)).0.new_is)) (up_or_down v)
  stays v w (Raise place settled) (told.Raise (Err e)) sound a = ap me_of a.err.0
  stays v w Flush (told.Flush r) sound a = a.keeps.me
  stays v w Checkpoint (told.Checkpoint r) sound a = a.keeps.me
  stays v w call reply sound a = absurd a

  module _ (store shards : ℕ) (old : Store D) (now : Moment) (standing : StandsOver state honest store shards old now) where
    coordinator_keeps : (n : NodeName) (v w : CoordinatorView D) (call : CoordinatorCall) (reply : CoordinatorReply) → IsNode store shards old n (views.coordinator v)
        → CoordinatorAnswers state honest moment left_since v call reply w → IsNamed store shards (views.coordinator w) n
    coordinator_keeps coordinator v w call reply node a = stays v w call reply (runs_now state honest store shards old now standing v node) a ∙ node.named
    coordinator_keeps (shard s) v w call reply node a = absurd node.named

    shard_keeps : (n : NodeName) (v w : ShardView D) → w.me ≡ v.me → IsNamed store shards (views.shard v) n → IsNamed store shards (views.shard w) n
    shard_keeps coordinator v w same name = absurd name
    shard_keeps (shard s) v w same name = same ∙ name

    pub keeps_name : (n : NodeName) (was : NodeView D) (call : NodeCall) (reply : Reply) (is : NodeView D) → IsNode store shards old n was → Answered state honest moment left_since was call reply is → IsNamed store shards is n
    keeps_name n (views.coordinator v) (Coordinator call) (from_coordinator reply) (views.coordinator w) node a = coordinator_keeps n v w call reply node a
    keeps_name n (views.shard v) (Shard s call) (from_shard reply) (views.shard w) node a =
        shard_keeps n v w (shard_stays state honest moment left_since (views.shard v) (Shard s call) (from_shard reply) (views.shard w) a) node.named
    keeps_name n (views.refused e a b) call reply is node answered = subst (λ (v : NodeView D). IsNamed store shards v n) (sym answered.0) tt
    keeps_name n was call reply is node answered = absurd answered
