-- Which node is the first that is not up, there is one answer to.
use Rattle.std.proofs.Common.{◌≡◌, ◌⊎◌, ◌<◌, ⊎_elim, ℕ, Option, None, Some, Ok, Err, MatchOption, refl, sym, ◌∙◌, subst, arith}
use Rattle.calls.specs.Carrying.{Reaches}
use Rattle.calls.specs.Views as views
use Rattle.calls.specs.Views.{NodeView}
use Rattle.calls.specs.declared.carrying.Reach.{Reach}
use Rattle.cluster.specs.Openings.{name_at}
use Rattle.cluster.specs.Worlds.{WorldView, node_at}
use Rattle.device.specs.Device.{State}
use Rattle.refusal.specs.declared.refusal.Refusal.{Refusal}
use Rattle.refusal.specs.declared.refusal.Refusal.TheVariants.{BadRequest}
use Rattle.reshard.specs.Refusing.{AreUp, IsFirstDown, RefusesAt}

module _ {D : Type 0} (state : D → State) (honest : D → Type 0) where
  not_both : (node : NodeView D) (reach : Reach) (e : Refusal) → Reaches state honest node (Ok reach) → Reaches state honest node (Err e) → ⊥
  not_both (views.coordinator v) reach e up refuses = let bad = up.down.1 (refuses.down.0 refl) in absurd cc
  not_both (views.shard v) reach e up refuses = let bad = up.down.1 (refuses.down.0 refl) in absurd cc
  not_both (views.refused r a b) reach e up refuses = let bad : Ok reach ≡ Err r = up in absurd cc

  one_refusal : (node : NodeView D) (e f : Refusal) → Reaches state honest node (Err e) → Reaches state honest node (Err f) → e ≡ f
  one_refusal (views.coordinator v) e f one other = one.err ∙ sym other.err
  one_refusal (views.shard v) e f one other = one.err ∙ sym other.err
  one_refusal (views.refused r a b) e f one other = let same : Err e ≡ Err f = one ∙ sym other in cc

  up_or_not : (o : Option (NodeView D)) (reach : Reach) (e : Refusal) → MatchOption o ⊥ (λ node. Reaches state honest node (Ok reach)) → MatchOption o (e ≡ BadRequest) (λ node. Reaches state honest node (Err e)) → ⊥
  up_or_not None reach e up refuses = up
  up_or_not (Some node) reach e up refuses = not_both node reach e up refuses

  one_answer : (o : Option (NodeView D)) (e f : Refusal) → MatchOption o (e ≡ BadRequest) (λ node. Reaches state honest node (Err e)) → MatchOption o (f ≡ BadRequest) (λ node. Reaches state honest node (Err f)) → e ≡ f
  one_answer None e f one other = one ∙ sym other
  one_answer (Some node) e f one other = one_refusal node e f one other

  pub none_is_down : (w : WorldView D) (e : Refusal) → AreUp state honest w → IsFirstDown state honest w e → ⊥
  none_is_down w e up down = let here = up down.place down.within in up_or_not (node_at w.nodes (name_at down.place)) here.0 e here.1 down.refuses

  pub first_is_one : (w : WorldView D) (e f : Refusal) → IsFirstDown state honest w e → IsFirstDown state honest w f → e ≡ f
  first_is_one w e f one other = ⊎_elim
      (λ less. let here = other.before one.place less in absurd (up_or_not (node_at w.nodes (name_at one.place)) here.0 e here.1 one.refuses))
      (λ rest. ⊎_elim
      (λ same. one_answer (node_at w.nodes (name_at one.place)) e f one.refuses (subst (λ (i : ℕ). RefusesAt state honest w.nodes (name_at i) f) (sym same) other.refuses))
      (λ more. let here = one.before other.place more in absurd (up_or_not (node_at w.nodes (name_at other.place)) here.0 f here.1 other.refuses))
      rest)
      (order one.place other.place)
    where
      order : (a b : ℕ) → (a < b) ⊎ ((a ≡ b) ⊎ (b < a))
      order a b = grind arith
