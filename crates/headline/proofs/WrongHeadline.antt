-- What no world, no opening and no life of a store is: mistakes that the definitions refuse, one by one.
use Rattle.std.proofs.Common.{◌≡◌, ◌⊎◌, ⊎_elim, ◌+◌, ◌++◌, ℕ, false, List, [], ◌∷◌, length, Some, None, refl, sym, ◌∙◌, ap, subst, arith}
use Rattle.headline.proofs.Words.{AreOpened, Bank, Down, Event, Flow, FlowView, HasFailed, IsOpenedOver, IsWholeStep, Lives, Machine, NodeName, NodeView, Shows, Start, State, Store, Tear, TookAll, Turn, WorldView, WriteId, WriteValue, coordinator}
use Rattle.calls.specs.Views.{refused}
use Rattle.names.specs.declared.node_name.NodeName as names
use Rattle.cluster.specs.Steps.{events_of}
use Rattle.tuples.specs.declared.request.Request.TheVariants as requests
use Rattle.turns.specs.Promises.{IsNearlyFull}
use Rattle.headline.specs.DeviceScripts.{SetsScript}

-- a list with something in it is not empty
not_empty : {X : Type 0} {x : X} {xs : List X} → x ∷ xs ≡ [] → ⊥
not_empty is = cc

module _ {D : Type 0} (state : D → State) (honest : D → Type 0) (moment : D → ℕ) (left_since : D → ℕ → List ℕ → Type 0) where
  -- no nodes are opened over three devices, whose last would be half a node
  three_open_none : (a b c : D) (nodes : List (NodeView D)) → AreOpened state honest moment left_since 7 1 0 (a ∷ b ∷ c ∷ []) nodes → ⊥
  three_open_none a b c [] opened = opened
  three_open_none a b c (v ∷ []) opened = opened.1
  three_open_none a b c (v ∷ w ∷ nodes) opened = opened.1

  opened_over_three : (a b c : D) (new : WorldView D) → IsOpenedOver state honest moment left_since 7 1 (a ∷ b ∷ c ∷ []) new → ⊥
  opened_over_three a b c new opened = three_open_none a b c new.nodes opened.nodes

  -- no flow runs yet in a world that was opened
  opened_with_a_flow : (devices : List D) (w : WorldView D) (flow : Flow) → IsOpenedOver state honest moment left_since 7 1 devices (record w { flows = Some flow ∷ [] }) → ⊥
  opened_with_a_flow devices w flow opened = not_empty opened.flows

  -- and its number is the store's
  opened_as_another_store : (devices : List D) (w : WorldView D) → IsOpenedOver state honest moment left_since 7 1 devices (record w { store = 8 }) → ⊥
  opened_as_another_store devices w opened = let is : 8 ≡ 7 = opened.store_is in omega (arith, is)

  -- if no step was taken nothing was told
  told_without_a_step : (old new : WorldView D) (e : Event) (events : List Event) → TookAll state honest moment left_since old 0 [] (e ∷ events) new → ⊥
  told_without_a_step old new e events took = not_empty took.0

  -- and nothing is told of a slot in which no flow runs
  told_of_no_flow : (w new : WorldView D) (slot : ℕ) (e : Event) → TookAll state honest moment left_since (record w { flows = [] }) 0 (Turn slot ∷ []) (e ∷ []) new → ⊥
  told_of_no_flow w new slot e took =
      let first = took.3.2 ∙ ap (events_of 0) took.3.1.0 in
      let rest = took.4.0 in
      not_empty (took.5 ∙ ap (λ (l : List Event). l ++ took.2) first ∙ rest)

  -- a life tells no more than its steps
  lived_with_more_events : (old : NodeName → D × D) (m : Machine) (told : List WriteId) (e : Event) (new : WorldView D) → Lives state honest moment left_since 7 1 old m told [] (e ∷ []) new → ⊥
  lived_with_more_events old m told e new life = not_empty life.chain.0

-- a device to which nothing was ever written, and that has not failed
abbrev untouched : State
untouched = record { seen = []; durable = []; written = []; stopped = false; failures = 0 }

-- devices of a node that failed since, or have no room: between these and those
abbrev HaveCause : State × State → State × State → Type 0
HaveCause old new = HasFailed old.0 new.0 ⊎ (HasFailed old.1 new.1 ⊎ (IsNearlyFull old.0 ⊎ (IsNearlyFull old.1 ⊎ (IsNearlyFull new.0 ⊎ IsNearlyFull new.1))))

no_cause : HaveCause (untouched, untouched) (untouched, untouched) → ⊥
no_cause cause = ⊎_elim not_failed (λ rest. ⊎_elim not_failed (λ full. ⊎_elim (λ is. omega (arith, is)) (λ more. ⊎_elim (λ is. omega (arith, is)) (λ behind. ⊎_elim (λ is. omega (arith, is)) (λ is. omega (arith, is)) behind) more) full) rest) cause
  where
    not_failed : HasFailed untouched untouched → ⊥
    not_failed failed = ⊎_elim (λ is. omega (arith, is)) (λ is. omega (arith, is)) failed

-- so no store lives over them whose coordinator is refused as down
abbrev away : NodeView State
away = refused Down untouched untouched

down_for_nothing : (honest : State → Type 0) (moment : State → ℕ) (left_since : State → ℕ → List ℕ → Type 0) (m : Machine) (told : List WriteId)
    → Lives (λ (s : State). s) honest moment left_since 7 1 (λ n. (untouched, untouched)) m told [] [] (record { store = 7; shards = 1; nodes = away ∷ away ∷ []; flows = [] }) → ⊥
down_for_nothing honest moment left_since m told life =
    let node = life.shows.nodes coordinator away refl in
    let same = life.chain.1 in
    let cause = (life.opened.causes coordinator tt).down (ap (λ (s : Store State). s.at coordinator) (sym same) ∙ node.at) in
    no_cause (subst (HaveCause (untouched, untouched)) (ap (λ (s : Store State). s.devices coordinator) (sym same) ∙ node.devices) cause)

-- a store without flows does not show a world with one, nor one with a flow a world without
flow_not_shown : {D : Type 0} (w : WorldView D) (s : Store D) (flow : Flow) → Shows (record w { flows = Some flow ∷ [] }) (record s { flows = λ slot. None }) → ⊥
flow_not_shown w s flow shows = shows.flows 0

flow_shown_of_none : {D : Type 0} (w : WorldView D) (s : Store D) (view : FlowView) → Shows (record w { flows = [] }) (record s { flows = λ slot. Some view }) → ⊥
flow_shown_of_none w s view shows = shows.flows 0

-- a world of one shard has two nodes
shown_without_a_shard : {D : Type 0} (w : WorldView D) (s : Store D) (v : NodeView D) → Shows (record w { shards = 1; nodes = v ∷ [] }) s → ⊥
shown_without_a_shard w s v shows = let is : 1 ≡ 1 + 1 = shows.count in omega (arith, is)

-- a script that is set on a device ends no flow
script_ended_a_flow : {D : Type 0} (set : D → ℕ → Tear → Type 0) (state : D → State) (honest : D → Type 0) (moment : D → ℕ) (left_since : D → ℕ → List ℕ → Type 0) (bank : Bank) (n : ℕ) (tear : Tear)
    (name : names.NodeName) (w : WorldView D) (flow : Flow) → SetsScript set state honest moment left_since bank n tear name (record w { flows = Some flow ∷ [] }) (record w { flows = [] }) → ⊥
script_ended_a_flow {D = D} set state honest moment left_since bank n tear name w flow script = not_empty (sym (ap (λ (x : WorldView D). x.flows) script.rest))

-- and a write that changes nothing is not whole
wrote_nothing : (write : WriteValue) → write.changes ≡ [] → IsWholeStep (Start (requests.Write write)) → ⊥
wrote_nothing write none whole = let some = whole.some in let is = ap length none in omega (arith, some, is)
