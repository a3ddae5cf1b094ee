-- The store that shows a world after a call: its nodes as they then are, and other flows.
use Rattle.std.proofs.Common.{◌≡◌, ◌≢◌, ⊎_elim, ◌==◌, ℕ, false, List, Option, Some, None, refl, sym, ◌∙◌, ap, if◌then◌else◌}
use Rattle.std.proofs.lemmas.Bool.{cases_Bool, eq-eqb, eqb-true}
use Rattle.headline.proofs.Words.{FlowView, IsNamed, IsNode, IsThere, NodeName, NodeState, NodeView, ShowsMemory, SlotTurns, Store, WriteId, coordinator, devices_of, named, node_at, shard, shown}
use Rattle.calls.specs.Views as views
use Rattle.names.specs.declared.node_name.NodeName.TheVariants.{Coordinator}

-- what a store shows of a node that is there
abbrev devices_in : {D : Type 0} → Option (NodeView D) → D × D → D × D
devices_in None were = were
devices_in (Some v) were = devices_of v

abbrev state_in : {D : Type 0} → Option (NodeView D) → NodeState → NodeState
state_in None was = was
state_in (Some v) was = shown v

abbrev ids_in : {D : Type 0} → Option (NodeView D) → List WriteId → List WriteId
ids_in None were = were
ids_in (Some (views.coordinator v)) were = v.open_ids
ids_in (Some (views.shard v)) were = were
ids_in (Some (views.refused e a b)) were = were

abbrev given_in : {D : Type 0} → Option (NodeView D) → ℕ → ℕ
given_in None was = was
given_in (Some (views.coordinator v)) was = v.given
given_in (Some (views.shard v)) was = was
given_in (Some (views.refused e a b)) was = was

-- The store with these nodes and flows: what it knows of a node that is not there, and what lay in the memory of a coordinator that is away, stays.
abbrev pub behind : {D : Type 0} → List (NodeView D) → (ℕ → Option FlowView) → Store D → Store D
behind nodes flows s = record {
  devices = λ n. devices_in (node_at nodes (named n)) (s.devices n);
  at = λ n. state_in (node_at nodes (named n)) (s.at n);
  open_ids = ids_in (node_at nodes Coordinator) s.open_ids;
  given = given_in (node_at nodes Coordinator) s.given;
  flows = flows;
}

module _ {D : Type 0} (store shards : ℕ) (nodes : List (NodeView D)) (flows : ℕ → Option FlowView) (s : Store D) where
  memory : (n : NodeName) (v : NodeView D) → node_at nodes (named n) ≡ Some v → IsNamed store shards v n → ShowsMemory v (behind nodes flows s)
  memory coordinator (views.coordinator v) is name = (ap (λ (o : Option (NodeView D)). ids_in o s.open_ids) is, ap (λ (o : Option (NodeView D)). given_in o s.given) is)
  memory (shard k) (views.coordinator v) is name = absurd name
  memory n (views.shard v) is name = tt
  memory n (views.refused e a b) is name = tt

  -- it shows each of its nodes
  pub shows_node : (n : NodeName) (v : NodeView D) → node_at nodes (named n) ≡ Some v → IsThere shards n → IsNamed store shards v n → IsNode store shards (behind nodes flows s) n v
  shows_node n v is there name = record {
    there = there;
    named = name;
    devices = ap (λ (o : Option (NodeView D)). devices_in o (s.devices n)) is;
    at = ap (λ (o : Option (NodeView D)). state_in o (s.at n)) is;
    memory = memory n v is name;
  }

  -- what is as before among the nodes is so in the store
  pub same_devices : (n : NodeName) (old : Option (NodeView D)) → node_at nodes (named n) ≡ old → ((v : NodeView D) → old ≡ Some v → IsNode store shards s n v) → (behind nodes flows s).devices n ≡ s.devices n
  same_devices n None is node = ap (λ (o : Option (NodeView D)). devices_in o (s.devices n)) is
  same_devices n (Some v) is node = ap (λ (o : Option (NodeView D)). devices_in o (s.devices n)) is ∙ sym (node v refl).devices

  pub same_at : (n : NodeName) (old : Option (NodeView D)) → node_at nodes (named n) ≡ old → ((v : NodeView D) → old ≡ Some v → IsNode store shards s n v) → (behind nodes flows s).at n ≡ s.at n
  same_at n None is node = ap (λ (o : Option (NodeView D)). state_in o (s.at n)) is
  same_at n (Some v) is node = ap (λ (o : Option (NodeView D)). state_in o (s.at n)) is ∙ sym (node v refl).at

  abbrev Remembers : Type 0
  Remembers = ((behind nodes flows s).open_ids ≡ s.open_ids) × ((behind nodes flows s).given ≡ s.given)

  pub same_memory : (old : Option (NodeView D)) → node_at nodes Coordinator ≡ old → ((v : NodeView D) → old ≡ Some v → IsNode store shards s coordinator v) → Remembers
  same_memory None is node = (ap (λ (o : Option (NodeView D)). ids_in o s.open_ids) is, ap (λ (o : Option (NodeView D)). given_in o s.given) is)
  same_memory (Some (views.coordinator v)) is node =
      let kept = (node (views.coordinator v) refl).memory in
      (ap (λ (o : Option (NodeView D)). ids_in o s.open_ids) is ∙ sym kept.0, ap (λ (o : Option (NodeView D)). given_in o s.given) is ∙ sym kept.1)
  same_memory (Some (views.shard v)) is node = (ap (λ (o : Option (NodeView D)). ids_in o s.open_ids) is, ap (λ (o : Option (NodeView D)). given_in o s.given) is)
  same_memory (Some (views.refused e a b)) is node = (ap (λ (o : Option (NodeView D)). ids_in o s.open_ids) is, ap (λ (o : Option (NodeView D)). given_in o s.given) is)

-- the flows with this in a slot
abbrev pub with_slot : ℕ → Option FlowView → (ℕ → Option FlowView) → ℕ → Option FlowView
with_slot slot g flows k = if k == slot then g else flows k

pub at_slot : (slot : ℕ) (g : Option FlowView) (flows : ℕ → Option FlowView) → with_slot slot g flows slot ≡ g
at_slot slot g flows = ap (λ b. if b then g else flows slot) (eq-eqb slot slot refl)

not_slot : (k slot : ℕ) → k ≢ slot → (k == slot) ≡ false
not_slot k slot ne = ⊎_elim (λ same. absurd (ne (eqb-true k slot same))) (λ other. other) (cases_Bool (k == slot))

pub off_slot : (slot : ℕ) (g : Option FlowView) (flows : ℕ → Option FlowView) (k : ℕ) → k ≢ slot → with_slot slot g flows k ≡ flows k
off_slot slot g flows k ne = ap (λ b. if b then g else flows k) (not_slot k slot ne)

-- a store with this in a slot, and what another had in the others, has turned in that slot
pub slot_turns : {D : Type 0} (old new : Store D) (slot : ℕ) (was : FlowView) (g : Option FlowView) → old.flows slot ≡ Some was → new.flows ≡ with_slot slot g old.flows → SlotTurns slot was g old new
slot_turns old new slot was g before is = record {
  before = before;
  after = ap (λ (f : ℕ → Option FlowView). f slot) is ∙ at_slot slot g old.flows;
  others = λ k ne. ap (λ (f : ℕ → Option FlowView). f k) is ∙ off_slot slot g old.flows k ne;
}
