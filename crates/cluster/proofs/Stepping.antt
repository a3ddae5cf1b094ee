-- What each step does makes a step of the store, and what the store keeps stays.
use Rattle.std.proofs.Common.{◌≡◌, ◌∙◌, ℕ, List, Option, Some, None, MatchOption, Result, Ok, Err, IfOk, OnErr, ap, refl, subst}
use Rattle.std.specs.declared.alloc.AllocError.{AllocError}
use Rattle.device.specs.Device.{State}
use Rattle.calls.specs.Views.{NodeView}
use Rattle.names.specs.declared.node_name.NodeName.{NodeName}
use Rattle.cluster.specs.declared.event.What.{What}
use Rattle.cluster.specs.declared.flow.Flow.{Flow}
use Rattle.names.specs.declared.care.Care.{Care}
use Rattle.tuples.specs.declared.request.Request.{Request}
use Rattle.cluster.specs.declared.step.Step.TheVariants.{Start, Turn, Cancel, Care as care_for, Restart}
use Rattle.cluster.specs.Begun.{IsInLimits, MayCare, begun_for, caring_for}
use Rattle.cluster.specs.Steps.{Begins, CancelsIn, IsIdle, RestartsIn, SlotCancels, SlotRestarts, SlotTurns, Takes, TurnsIn}
use Rattle.cluster.specs.Worlds.{WorldView, flow_at, node_at}

module _ {D : Type 0} (state : D → State) (honest : D → Type 0) (moment : D → ℕ) (left_since : D → ℕ → List ℕ → Type 0) where
  pub same_flows : (old : WorldView D) (flows : List (Option Flow)) → flows ≡ old.flows → record old { flows = flows } ≡ old
  same_flows old flows is = ap (λ (fs : List (Option Flow)). record old { flows = fs }) is

  pub same_nodes : (old : WorldView D) (nodes : List (NodeView D)) → nodes ≡ old.nodes → record old { nodes = nodes } ≡ old
  same_nodes old nodes is = ap (λ (ns : List (NodeView D)). record old { nodes = ns }) is

  same_both : (old : WorldView D) (nodes : List (NodeView D)) (flows : List (Option Flow)) → nodes ≡ old.nodes → flows ≡ old.flows → record old { nodes = nodes; flows = flows } ≡ old
  same_both old nodes flows nodes_are flows_are = ap (λ (ns : List (NodeView D)). record old { nodes = ns; flows = flows }) nodes_are ∙ same_flows old flows flows_are

  pub takes_turn : (old : WorldView D) (slot : ℕ) (told : Option What) (nodes : List (NodeView D)) (flows : List (Option Flow))
      → MatchOption (flow_at old.flows slot) ((told ≡ None) × (nodes ≡ old.nodes) × (flows ≡ old.flows))
      (λ flow. SlotTurns state honest moment left_since old.shards old.nodes old.flows slot flow told nodes flows)
      → Takes state honest moment left_since old (Turn slot) told (record old { nodes = nodes; flows = flows })
  takes_turn old slot told nodes flows = by_flow (flow_at old.flows slot)
    where
      by_flow : (here : Option Flow)
          → MatchOption here ((told ≡ None) × (nodes ≡ old.nodes) × (flows ≡ old.flows)) (λ flow. SlotTurns state honest moment left_since old.shards old.nodes old.flows slot flow told nodes flows)
          → MatchOption here (IsIdle state honest moment left_since old told (record old { nodes = nodes; flows = flows })) (λ flow. TurnsIn state honest moment left_since old slot flow told (record old { nodes = nodes; flows = flows }))
      by_flow None h = (h.0, same_both old nodes flows h.1 h.2)
      by_flow (Some flow) h = (h, refl)

  pub takes_cancel : (old : WorldView D) (slot : ℕ) (flows : List (Option Flow))
      → MatchOption (flow_at old.flows slot) (flows ≡ old.flows) (λ flow. SlotCancels old.flows slot flow flows)
      → Takes state honest moment left_since old (Cancel slot) None (record old { flows = flows })
  takes_cancel old slot flows = by_flow (flow_at old.flows slot)
    where
      by_flow : (here : Option Flow) → MatchOption here (flows ≡ old.flows) (λ flow. SlotCancels old.flows slot flow flows)
          → MatchOption here (IsIdle state honest moment left_since old None (record old { flows = flows })) (λ flow. CancelsIn state honest moment left_since old slot flow None (record old { flows = flows }))
      by_flow None h = (refl, same_flows old flows h)
      by_flow (Some flow) h = (h, refl, refl)

  pub takes_restart : (old : WorldView D) (name : NodeName) (told : Option What) (nodes : List (NodeView D))
      → MatchOption (node_at old.nodes name) ((told ≡ None) × (nodes ≡ old.nodes)) (λ was. SlotRestarts state honest moment left_since old.store old.shards old.nodes name was told nodes)
      → Takes state honest moment left_since old (Restart name) told (record old { nodes = nodes })
  takes_restart old name told nodes = by_node (node_at old.nodes name)
    where
      by_node : (here : Option (NodeView D)) → MatchOption here ((told ≡ None) × (nodes ≡ old.nodes)) (λ was. SlotRestarts state honest moment left_since old.store old.shards old.nodes name was told nodes)
          → MatchOption here (IsIdle state honest moment left_since old told (record old { nodes = nodes })) (λ was. RestartsIn state honest moment left_since old name was told (record old { nodes = nodes }))
      by_node None h = (h.0, same_nodes old nodes h.1)
      by_node (Some was) h = (h, refl)

  -- The same for a store whose fields were changed one by one.
  pub turned : (view old : WorldView D) (slot : ℕ) (told : Option What) (nodes : List (NodeView D)) (flows : List (Option Flow)) → view ≡ old
      → MatchOption (flow_at view.flows slot) ((told ≡ None) × (nodes ≡ view.nodes) × (flows ≡ view.flows))
      (λ flow. SlotTurns state honest moment left_since view.shards view.nodes view.flows slot flow told nodes flows)
      → Takes state honest moment left_since old (Turn slot) told (record view { nodes = nodes; flows = flows })
  turned view old slot told nodes flows is h =
      subst (λ (w : WorldView D). Takes state honest moment left_since w (Turn slot) told (record view { nodes = nodes; flows = flows })) is (takes_turn view slot told nodes flows h)

  pub cancelled : (view old : WorldView D) (slot : ℕ) (flows : List (Option Flow)) → view ≡ old
      → MatchOption (flow_at view.flows slot) (flows ≡ view.flows) (λ flow. SlotCancels view.flows slot flow flows)
      → Takes state honest moment left_since old (Cancel slot) None (record view { flows = flows })
  cancelled view old slot flows is h =
      subst (λ (w : WorldView D). Takes state honest moment left_since w (Cancel slot) None (record view { flows = flows })) is (takes_cancel view slot flows h)

  pub restarted : (view old : WorldView D) (name : NodeName) (told : Option What) (nodes : List (NodeView D)) → view ≡ old
      → MatchOption (node_at view.nodes name) ((told ≡ None) × (nodes ≡ view.nodes)) (λ was. SlotRestarts state honest moment left_since view.store view.shards view.nodes name was told nodes)
      → Takes state honest moment left_since old (Restart name) told (record view { nodes = nodes })
  restarted view old name told nodes is h =
      subst (λ (w : WorldView D). Takes state honest moment left_since w (Restart name) told (record view { nodes = nodes })) is (takes_restart view name told nodes h)

  pub started : (view old : WorldView D) (request : Request) (result : Result (Option What) AllocError) (flows : List (Option Flow)) → view ≡ old
      → IfOk result (λ told. Begins view.flows (IsInLimits request) (begun_for view.shards request) told flows)
      → IfOk result (λ told. Takes state honest moment left_since old (Start request) told (record view { flows = flows }))
  started view old request (Ok told) flows is h =
      subst (λ (w : WorldView D). Takes state honest moment left_since w (Start request) told (record view { flows = flows })) is (h, refl)
  started view old request (Err e) flows is h = tt

  pub cared : (view old : WorldView D) (care : Care) (result : Result (Option What) AllocError) (flows : List (Option Flow)) → view ≡ old
      → IfOk result (λ told. Begins view.flows (MayCare view.shards care) (caring_for view.shards care) told flows)
      → IfOk result (λ told. Takes state honest moment left_since old (care_for care) told (record view { flows = flows }))
  cared view old care (Ok told) flows is h =
      subst (λ (w : WorldView D). Takes state honest moment left_since w (care_for care) told (record view { flows = flows })) is (h, refl)
  cared view old care (Err e) flows is h = tt

  pub unchanged : (view old : WorldView D) (result : Result (Option What) AllocError) (flows : List (Option Flow)) → view ≡ old
      → OnErr result (flows ≡ view.flows) → OnErr result (record view { flows = flows } ≡ old)
  unchanged view old (Ok told) flows is h = tt
  unchanged view old (Err e) flows is h = same_flows view flows h ∙ is
