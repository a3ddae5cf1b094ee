-- A turn of a flow in a slot of a world is one in a slot of the store that shows it, whatever the flow's kind.
use Rattle.std.proofs.Common.{◌≡◌, ◌≢◌, ⊎_elim, ℕ, List, length, Option, Some, None, MatchOption, set, refl, sym, ◌∙◌, ap, subst}
use Rattle.std.proofs.lemmas.Bool.{cases_eq}
use Rattle.std.proofs.lemmas.List.{length-set}
use Rattle.headline.proofs.Words.{Answered, Damaged, Flow, FlowView, IsCalled, IsNamed, IsNode, IsShownFlow, IsShownSlot, IsThere, Keeps, KeepsMemory, Moment, NodeCall, NodeName, NodeView, Ran, Refuses, Reply, Shows, SlotTurns, StandsOver, State, Store, Told, Turn, What, WorldView, all_told, called, coordinator, events_of, flow_at, index_of, named, node_at, node_of, shard, turn}
use Rattle.calls.specs.Views as views
use Rattle.flow_turns.specs.StoreTurns.{TurnRuns}
use Rattle.flow_turns.proofs.Fails.{failed_calls_have_cause}
use Rattle.flow_turns.proofs.Belongs.{is_node_of}
use Rattle.cluster.specs.Nodes.{AnsweredBy, Called}
use Rattle.headline.proofs.Behind.{at_slot, behind, off_slot, same_at, same_devices, same_memory, shows_node, slot_turns, with_slot}
use Rattle.headline.proofs.Nodes.{IsPut, is_put, named_called, node_there}
use Rattle.headline.proofs.Stays.{keeps_name}
use Rattle.turns.proofs.QuietTurns.{is_same_node}

-- the flow in a slot is shown there
pub shown_there : (shards : ℕ) (flow : Flow) (o : Option FlowView) → IsShownSlot shards (Some flow) o → (view : FlowView) × (o ≡ Some view) × IsShownFlow shards flow view
shown_there shards flow None shows = absurd shows
shown_there shards flow (Some view) shows = (view, refl, shows)

module _ {D : Type 0} (state : D → State) (honest : D → Type 0) (moment : D → ℕ) (left_since : D → ℕ → List ℕ → Type 0) (old : WorldView D) (s : Store D) (shows : Shows old s) where
  abbrev Stand : Moment → Type 0
  Stand now = StandsOver state honest old.store old.shards s now

  abbrev Node : Store D → NodeName → NodeView D → Type 0
  Node = IsNode old.store old.shards

  -- a node that the store has is there
  is_there : (n : NodeName) (v : NodeView D) → node_at old.nodes (named n) ≡ Some v → IsThere old.shards n
  is_there n v is = (shows.nodes n v is).there

  -- The node that a call names replaces what it was.
  module _ (now : Moment) (standing : Stand now) (call : NodeCall) (reply : Reply) (was is : NodeView D) (nodes : List (NodeView D)) (flows : ℕ → Option FlowView)
      (put : IsPut old.nodes (called call) is nodes) (at : node_at old.nodes (named (called call)) ≡ Some was) (answered : Answered state honest moment left_since was call reply is) where
    abbrev later : Store D
    later = behind nodes flows s

    before : Node s (called call) was
    before = shows.nodes (called call) was at

    after : Node later (called call) is
    after = shows_node old.store old.shards nodes flows s (called call) is put.here before.there (keeps_name state honest moment left_since old.store old.shards s now standing (called call) was call reply is before answered)

    other_devices : (m : NodeName) → m ≢ called call → later.devices m ≡ s.devices m
    other_devices m ne = same_devices old.store old.shards nodes flows s m (node_at old.nodes (named m)) (put.others m ne) (λ v is_v. shows.nodes m v is_v)

    other_at : (m : NodeName) → m ≢ called call → later.at m ≡ s.at m
    other_at m ne = same_at old.store old.shards nodes flows s m (node_at old.nodes (named m)) (put.others m ne) (λ v is_v. shows.nodes m v is_v)

    -- a coordinator's memory is touched by its own calls alone
    unless_coordinator : (n : NodeName) → n ≢ coordinator → IsPut old.nodes n is nodes → (later.open_ids ≡ s.open_ids) × (later.given ≡ s.given)
    unless_coordinator n ne others = same_memory old.store old.shards nodes flows s (node_at old.nodes (named coordinator)) (others.others coordinator (λ same. ne (sym same))) (λ v is_v. shows.nodes coordinator v is_v)

    memory : (n : NodeName) (w : NodeView D) → w ≡ was → IsPut old.nodes n is nodes → IsNamed old.store old.shards w n → node_at old.nodes (named n) ≡ Some was → KeepsMemory w s later
    memory n (views.coordinator v) same others name here = tt
    memory coordinator (views.shard v) same others name here = absurd name
    memory (shard k) (views.shard v) same others name here = unless_coordinator (shard k) (λ is_c. cc) others
    memory (shard k) (views.refused e a b) same others name here = unless_coordinator (shard k) (λ is_c. cc) others
    memory coordinator (views.refused e a b) same others name here =
        let stays : is ≡ views.refused e a b = refused_stays was (sym same) answered in
        same_memory old.store old.shards nodes flows s (Some (views.refused e a b)) (others.here ∙ ap (λ (v : NodeView D). Some v) stays)
        (λ v is_v. shows.nodes coordinator v (here ∙ ap (λ (x : NodeView D). Some x) (sym same) ∙ is_v))
      where
        refused_stays : (v : NodeView D) → v ≡ views.refused e a b → Answered state honest moment left_since v call reply is → is ≡ views.refused e a b
        refused_stays v is_v a_v = (subst (λ (x : NodeView D). Answered state honest moment left_since x call reply is) is_v a_v).0

    pub called_is : IsCalled state honest moment left_since old.store old.shards (called call) was is s later
    called_is = record {
      before = before;
      after = after;
      devices = other_devices;
      at = other_at;
      memory = memory (called call) was refl put before.named at;
      fails = λ is_down not_down. failed_calls_have_cause state honest moment left_since old.store old.shards s later now (called call) was is call reply standing before after answered is_down not_down;
    }

    -- whichever node is there then is shown
    pub nodes_shown : (n : NodeName) (v : NodeView D) → node_at nodes (named n) ≡ Some v → Node later n v
    nodes_shown n v is_v = ⊎_elim
        (λ same.
        let same_v : is ≡ v = (let both : Some is ≡ Some v = sym put.here ∙ ap (λ (m : NodeName). node_at nodes (named m)) (sym same) ∙ is_v in cc) in
        subst (λ (m : NodeName). Node later m v) (sym same) (subst (λ (x : NodeView D). Node later (called call) x) same_v after))
        (λ ne.
        let node = shows.nodes n v (sym (put.others n ne) ∙ is_v) in
        shows_node old.store old.shards nodes flows s n v is_v node.there node.named)
        (is_same_node n (called call))

  -- A call of a node that the store does not have leads to nothing, or to a turn in which no node was called.
  abbrev pub Stays : WorldView D → ℕ → NodeCall → Reply → Option FlowView → List Told → Type 0
  Stays new slot call reply g t = (now : Moment) → Stand now → node_at old.nodes (named (called call)) ≡ None → new.nodes ≡ old.nodes → Refuses Damaged call reply
      → (number : ℕ) → Ran state honest moment left_since old.store old.shards s now number (turn slot) (events_of number t) (behind new.nodes (with_slot slot g s.flows) s)

  -- a call that may be made is of a node that the store has
  pub never_away : (new : WorldView D) (slot : ℕ) (call : NodeCall) (reply : Reply) (g : Option FlowView) (t : List Told) → ((now : Moment) → Stand now → IsThere old.shards (called call)) → Stays new slot call reply g t
  never_away new slot call reply g t there now standing none = absurd (node_there old.shards old.nodes (called call) shows.count (there now standing) none)

  -- The flow in a slot, which is shown so, makes a call, and is shown so after it, or has left the slot; by the law of its kind that is a turn of a run.
  module _ (new : WorldView D) (slot : ℕ) (told : Option What) (call : NodeCall) (reply : Reply) (view : FlowView) (g : Option FlowView) (t : List Told)
      (before : s.flows slot ≡ Some view) (calls : Called state honest moment left_since old.shards old.nodes call reply new.nodes) (new_is : new ≡ record old { nodes = new.nodes; flows = new.flows })
      (is_shown : IsShownSlot old.shards (flow_at new.flows slot) g) (others : (k : ℕ) → k ≢ slot → flow_at new.flows k ≡ flow_at old.flows k) (tells : all_told told ≡ t)
      (away : Stays new slot call reply g t)
      (law : (later : Store D) (was is : NodeView D) → Answered state honest moment left_since was call reply is → IsCalled state honest moment left_since old.store old.shards (called call) was is s later
      → SlotTurns slot view g s later → TurnRuns state honest moment left_since old.store old.shards s slot t later) where
    abbrev store_then : Store D
    store_then = behind new.nodes (with_slot slot g s.flows) s

    flows_shown : (k : ℕ) → IsShownSlot old.shards (flow_at new.flows k) (store_then.flows k)
    flows_shown k = ⊎_elim
        (λ same. subst (λ (j : ℕ). IsShownSlot old.shards (flow_at new.flows j) (store_then.flows j)) (sym same)
        (subst (IsShownSlot old.shards (flow_at new.flows slot)) (sym (at_slot slot g s.flows)) is_shown))
        (λ ne. subst (λ (f : Option Flow). IsShownSlot old.shards f (store_then.flows k)) (sym (others k ne))
        (subst (IsShownSlot old.shards (flow_at old.flows k)) (sym (off_slot slot g s.flows k ne)) (shows.flows k)))
        (cases_eq k slot)

    abbrev Runs : Moment → Type 0
    Runs now = (number : ℕ) → Ran state honest moment left_since old.store old.shards s now number (turn slot) (events_of number t) store_then

    by_answer : (now : Moment) → Stand now → (was : NodeView D) → node_at old.nodes (named (called call)) ≡ Some was → AnsweredBy state honest moment left_since old.shards old.nodes was call reply new.nodes
        → Shows (record old { nodes = new.nodes; flows = new.flows }) store_then × Runs now
    by_answer now standing was at a = (
      record {
        some = shows.some;
        count = ap (λ (ns : List (NodeView D)). length ns) a.new_is ∙ length-set old.nodes (index_of (node_of call)) a.is ∙ shows.count;
        nodes = nodes_shown now standing call reply was a.is new.nodes (with_slot slot g s.flows) put at answered;
        flows = flows_shown;
      },
      λ number. law store_then was a.is answered (called_is now standing call reply was a.is new.nodes (with_slot slot g s.flows) put at answered) (slot_turns s store_then slot view g before refl) number now standing,
    )
      where
        answered : Answered state honest moment left_since was call reply a.is
        answered = ⊎_elim (λ is_so. is_so) (λ wrong. absurd (wrong.0 (is_node_of old.store old.shards call was (shows.nodes (called call) was at).named))) a.answers

        put : IsPut old.nodes (called call) a.is new.nodes
        put = is_put old.shards old.nodes new.nodes (called call) a.is shows.count (is_there (called call) was at) (a.new_is ∙ ap (λ n. set old.nodes (index_of n) a.is) (sym (named_called call)))

    at_node : (now : Moment) → Stand now → (o : Option (NodeView D)) → node_at old.nodes (named (called call)) ≡ o
        → MatchOption o ((new.nodes ≡ old.nodes) × Refuses Damaged call reply) (λ was. AnsweredBy state honest moment left_since old.shards old.nodes was call reply new.nodes)
        → Shows (record old { nodes = new.nodes; flows = new.flows }) store_then × Runs now
    at_node now standing None is gives = (
      record {
        some = shows.some;
        count = ap (λ (ns : List (NodeView D)). length ns) gives.0 ∙ shows.count;
        nodes = λ n v is_v. let node = shows.nodes n v (ap (λ (ns : List (NodeView D)). node_at ns (named n)) (sym gives.0) ∙ is_v) in
            shows_node old.store old.shards new.nodes (with_slot slot g s.flows) s n v is_v node.there node.named;
        flows = flows_shown;
      },
      away now standing is gives.0 gives.1,
    )
    at_node now standing (Some was) is gives = by_answer now standing was is gives

    turned : (now : Moment) → Stand now → Shows (record old { nodes = new.nodes; flows = new.flows }) store_then × Runs now
    turned now standing = at_node now standing (node_at old.nodes (named (called call))) refl
        (subst (λ n. MatchOption (node_at old.nodes n) ((new.nodes ≡ old.nodes) × Refuses Damaged call reply) (λ was. AnsweredBy state honest moment left_since old.shards old.nodes was call reply new.nodes))
        (sym (named_called call)) calls)

    pub keeps_turn : Keeps state honest moment left_since old s (Turn slot) told new
    keeps_turn = record {
      later = store_then;
      shows = λ now standing. subst (λ (w : WorldView D). Shows w store_then) (sym new_is) (turned now standing).0;
      store_is = ap (λ (w : WorldView D). w.store) new_is;
      shards_is = ap (λ (w : WorldView D). w.shards) new_is;
      runs = λ number now standing. subst (λ (l : List Told). Ran state honest moment left_since old.store old.shards s now number (turn slot) (events_of number l) store_then) (sym tells) ((turned now standing).1 number);
    }
