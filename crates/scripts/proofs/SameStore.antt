-- Steps leave a store its id.
use Rattle.std.proofs.Common.{◌≡◌, ◌∙◌, ℕ, List, [], ◌∷◌, Option, None, Some, MatchOption, ap}
use Rattle.calls.specs.Views.{NodeView}
use Rattle.cluster.specs.Steps.{CancelsIn, IsIdle, RestartsIn, Takes, TurnsIn}
use Rattle.cluster.specs.Worlds.{WorldView, flow_at, node_at}
use Rattle.cluster.specs.declared.event.What.{What}
use Rattle.cluster.specs.declared.flow.Flow.{Flow}
use Rattle.cluster.specs.declared.step.Step.{Step}
use Rattle.cluster.specs.declared.step.Step.TheVariants.{Start, Turn, Cancel, Care, Restart}
use Rattle.device.specs.Device.{State}
use Rattle.scripts.specs.Cares.{Cares, Taken, TakesAll}

module _ {D : Type 0} (state : D → State) (honest : D → Type 0) (moment : D → ℕ) (left_since : D → ℕ → List ℕ → Type 0) where
  step_keeps : (old : WorldView D) (step : Step) (told : Option What) (new : WorldView D) → Takes state honest moment left_since old step told new → new.store ≡ old.store
  step_keeps old (Start request) told new t = ap (λ (w : WorldView D). w.store) t.1
  step_keeps old (Turn slot) told new t = by_flow (flow_at old.flows slot) t
    where
      by_flow : (o : Option Flow) → MatchOption o (IsIdle state honest moment left_since old told new) (λ flow. TurnsIn state honest moment left_since old slot flow told new) → new.store ≡ old.store
      by_flow None t = ap (λ (w : WorldView D). w.store) t.1
      by_flow (Some flow) t = ap (λ (w : WorldView D). w.store) t.1
  step_keeps old (Cancel slot) told new t = by_flow (flow_at old.flows slot) t
    where
      by_flow : (o : Option Flow) → MatchOption o (IsIdle state honest moment left_since old told new) (λ flow. CancelsIn state honest moment left_since old slot flow told new) → new.store ≡ old.store
      by_flow None t = ap (λ (w : WorldView D). w.store) t.1
      by_flow (Some flow) t = ap (λ (w : WorldView D). w.store) t.2
  step_keeps old (Care care) told new t = ap (λ (w : WorldView D). w.store) t.1
  step_keeps old (Restart name) told new t = by_node (node_at old.nodes name) t
    where
      by_node : (o : Option (NodeView D)) → MatchOption o (IsIdle state honest moment left_since old told new) (λ was. RestartsIn state honest moment left_since old name was told new) → new.store ≡ old.store
      by_node None t = ap (λ (w : WorldView D). w.store) t.1
      by_node (Some was) t = ap (λ (w : WorldView D). w.store) t.1

  steps_keep : (steps : List Taken) (old new : WorldView D) → TakesAll (Takes state honest moment left_since) old steps new → new.store ≡ old.store
  steps_keep [] old new is = ap (λ (w : WorldView D). w.store) is
  steps_keep (t ∷ steps) old new is = steps_keep steps is.0 new is.2 ∙ step_keeps old t.step t.told is.0 is.1

  pub cares_keep : (old new : WorldView D) → Cares (Takes state honest moment left_since) old new → new.store ≡ old.store
  cares_keep old new cares = steps_keep cares.steps old new cares.took
