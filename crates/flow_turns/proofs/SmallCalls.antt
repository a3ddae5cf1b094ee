-- Small calls and steps of a store: nodes, calls, beginnings and ends of flows that are, and some that are not.
use Rattle.std.specs.List.{AllByRecursion, IsDistinct}
use Rattle.std.proofs.Common.{◌≡◌, ◌≢◌, ◌⊎◌, ⊎_elim, ◌≤◌, ◌<◌, ℕ, zero, suc, true, false, true≢false, List, [], ◌∷◌, length, Option, Some, None, Contains, refl, sym, ◌∙◌, ap, subst, arith}
use Rattle.std.proofs.lemmas.Option.{none-some}
use Rattle.std.proofs.Math.Dec.{eqb}
use Rattle.std.proofs.lemmas.Bool.{cases_Bool, eq-eqb, eqb-true}
use Rattle.tuples.specs.declared.change.Change.{Change}
use Rattle.tuples.specs.declared.change.Condition.{Condition}
use Rattle.flow_turns.proofs.CallWords.{Asked, CoordinatorView, Down, FlowView, Holds, Identity, IsBegunThere, IsCalled, IsFullThere, IsNode, NodeName, NodeState, NodeView, ShardView, State, Store, alone, coordinator, down, nothing_held, refused, shard, shard_node, shown_flow, to_raise, to_write, up}
use Rattle.device.specs.Device.{HasFailed}
use Rattle.calls.specs.Views as views
use Rattle.laws.specs.Worlds.{coordinator_node}
use Rattle.turns.specs.Promises.{IsNearlyFull}
use Rattle.flow_turns.specs.Steps.{IsDroppedThere}

shard_is_not : (s : ℕ) → shard s ≡ coordinator → ⊥
shard_is_not s is = cc

down_is_not_refused : down ≡ refused Down → ⊥
down_is_not_refused is = cc

-- the flow of a store of one flow, which raises the horizon
abbrev raise : FlowView
raise = shown_flow (to_raise 1) (nothing_held (to_raise 1))

abbrev first_slot : ℕ → Option FlowView
first_slot zero = Some raise
first_slot (suc t) = None

none_elsewhere : (t : ℕ) → t ≢ 0 → first_slot t ≡ None
none_elsewhere zero ne = absurd (ne refl)
none_elsewhere (suc t) ne = refl

only_first : (t : ℕ) → first_slot t ≢ None → t ≡ 0
only_first zero taken = refl
only_first (suc t) taken = absurd (taken refl)

-- and its slots are not as many as there may be
not_so_many : (taken : List ℕ) → 1024 ≤ length taken → IsDistinct eqb taken → ((t : ℕ) → Contains taken t → first_slot t ≢ None) → ⊥
unfolding IsDistinct
not_so_many [] many once each = omega (arith, many)
not_so_many (s ∷ []) many once each = omega (arith, many)
not_so_many (s ∷ t ∷ rest) many once each =
    let s_is = only_first s (each s (alone s (t ∷ rest))) in
    let t_is = only_first t (each t (1, omega arith, refl)) in
    true≢false (sym (eq-eqb s t (s_is ∙ sym t_is)) ∙ once.0.0)

-- this many numbers, the greatest first
first : ℕ → List ℕ
first zero = []
first (suc n) = n ∷ first n

so_many : (n : ℕ) → length (first n) ≡ n
unfolding first
so_many zero = refl
so_many (suc n) = ap suc (so_many n)

below : (n m : ℕ) → n ≤ m → AllByRecursion (λ (y : ℕ). eqb m y ≡ false) (first n)
unfolding first
below zero m le = tt
below (suc n) m le = (⊎_elim (λ same. let is = eqb-true m n same in absurd (omega (arith, is, le))) (λ other. other) (cases_Bool (eqb m n)), below n m (omega (arith, le)))

all_apart : (n : ℕ) → IsDistinct eqb (first n)
unfolding first IsDistinct
all_apart zero = tt
all_apart (suc n) = (below n n (omega arith), all_apart n)

-- a shard that is up, and a coordinator that is up
abbrev up_shard : {D : Type 0} → D → D → ℕ → ShardView D
up_shard a b store = record { a = a; b = b; end = 0; durable = []; staged = []; is_down = false; me = shard_node store 1 0 }

abbrev up_coordinator : {D : Type 0} → D → D → ℕ → CoordinatorView D
up_coordinator a b given = record { a = a; b = b; end = 0; durable = []; staged = []; is_down = false; me = coordinator_node 7 1; open_ids = []; given = given }

module _ {D : Type 0} (state : D → State) (honest : D → Type 0) (moment : D → ℕ) (left_since : D → ℕ → List ℕ → Type 0) (a b : D) where
  -- a store of one shard, over these devices at each node, without flows, whose nodes were all refused, and one whose nodes are all up
  abbrev store_at : NodeState → Store D
  store_at node = record { devices = λ n. (a, b); at = λ n. node; open_ids = []; given = 0; flows = λ t. None }

  abbrev away : Store D
  away = store_at (refused Down)

  abbrev there : Store D
  there = store_at (up [] [])

  refused_coordinator : IsNode 7 1 away coordinator (views.refused Down a b)
  refused_coordinator = record { there = tt; named = tt; devices = refl; at = refl; memory = tt }

  shard_up : IsNode 7 1 there (shard 0) (views.shard (up_shard a b 7))
  shard_up = record { there = omega arith; named = refl; devices = refl; at = refl; memory = tt }

  coordinator_up : IsNode 7 1 there coordinator (views.coordinator (up_coordinator a b 0))
  coordinator_up = record { there = tt; named = refl; devices = refl; at = refl; memory = (refl, refl) }

  -- no node has the devices of another one
  other_devices : a ≢ b → IsNode 7 1 away coordinator (views.refused Down b a) → ⊥
  other_devices apart node = apart (ap (λ (p : D × D). p.0) node.devices)

  -- no shard is the coordinator, none is another store's, and one shard is not two
  shard_as_coordinator : IsNode 7 1 there coordinator (views.shard (up_shard a b 7)) → ⊥
  shard_as_coordinator node = node.named

  shard_of_another_store : IsNode 7 1 there (shard 0) (views.shard (up_shard a b 8)) → ⊥
  shard_of_another_store node = let same : 8 ≡ 7 = ap (λ (i : Identity). i.store) node.named in omega (arith, same)

  second_shard : (s : Store D) (v : NodeView D) → IsNode 7 1 s (shard 1) v → ⊥
  second_shard s v node = let is : 1 < 1 = node.there in omega (arith, is)

  -- no node that is up is shown as refused, and the coordinator's memory is shown as it is
  refused_while_up : IsNode 7 1 away (shard 0) (views.shard (up_shard a b 7)) → ⊥
  refused_while_up node = let is : refused Down ≡ up [] [] = node.at in absurd cc

  other_memory : IsNode 7 1 there coordinator (views.coordinator (up_coordinator a b 5)) → ⊥
  other_memory node = let is : 0 ≡ 5 = node.memory.1 in omega (arith, is)

  -- a coordinator whose opening was refused is called, and nothing has changed
  called_in_vain : IsCalled state honest moment left_since 7 1 coordinator (views.refused Down a b) (views.refused Down a b) away away
  called_in_vain = record {
    before = refused_coordinator;
    after = refused_coordinator;
    devices = λ m ne. refl;
    at = λ m ne. refl;
    memory = (refl, refl);
    fails = λ is not_was. absurd (not_was is);
  }

  -- it gives no id, and takes no shard down
  gave_an_id : IsCalled state honest moment left_since 7 1 coordinator (views.refused Down a b) (views.refused Down a b) away (record away { given = 1 }) → ⊥
  gave_an_id call = let same : 1 ≡ 0 = call.memory.1 in omega (arith, same)

  abbrev shards_down : NodeName → NodeState
  shards_down coordinator = refused Down
  shards_down (shard s) = down

  took_a_shard_down : (was is : NodeView D) → IsCalled state honest moment left_since 7 1 coordinator was is away (record away { at = shards_down }) → ⊥
  took_a_shard_down was is call = down_is_not_refused (call.at (shard 0) (shard_is_not 0))

  -- a raise of the horizon begins in the first slot
  begins : IsBegunThere away (record away { flows = first_slot }) 0 (to_raise 1)
  begins = record {
    taken = [];
    few = omega arith;
    all = λ t some. absurd (some refl);
    free = refl;
    store_stays = record { devices = λ n. refl; at = λ n. refl; open_ids = refl; given = refl };
    started = refl;
    others = none_elsewhere;
  }

  -- no flow begins if another one runs
  begun_in_a_taken_slot : (new : Store D) (asked : Asked) → IsBegunThere (record away { flows = first_slot }) new 0 asked → ⊥
  begun_in_a_taken_slot new asked begun = none-some _ (sym begun.free)

  -- nor takes down a node
  begun_with_a_call : (slot : ℕ) (asked : Asked) → IsBegunThere away (record away { at = λ n. down; flows = first_slot }) slot asked → ⊥
  begun_with_a_call slot asked begun = down_is_not_refused (begun.store_stays.at coordinator)

  -- if each slot is taken the store is full, and stays as it was
  abbrev full : Store D
  full = record away { flows = λ t. Some raise }

  is_full : IsFullThere full full
  is_full = record {
    taken = first 1024;
    many = let all = so_many 1024 in omega (arith, all);
    once = all_apart 1024;
    each = λ t has none. none-some _ (sym none);
    store_stays = record { devices = λ n. refl; at = λ n. refl; open_ids = refl; given = refl };
    same = λ t. refl;
  }

  -- one flow does not fill it
  full_of_one : (new : Store D) → IsFullThere (record away { flows = first_slot }) new → ⊥
  full_of_one new is = not_so_many is.taken is.many is.once is.each

  -- the raise is cancelled, and has left its slot
  dropped : IsDroppedThere (record away { flows = first_slot }) away 0 (to_raise 1) (nothing_held (to_raise 1))
  dropped = record {
    no_write = refl;
    store_stays = record { devices = λ n. refl; at = λ n. refl; open_ids = refl; given = refl };
    slots = record { before = refl; after = refl; others = λ t ne. sym (none_elsewhere t ne) };
  }

  -- no write is dropped
  dropped_write : (old new : Store D) (slot : ℕ) (changes : List Change) (conditions : List Condition) (holds : Holds) → IsDroppedThere old new slot (to_write changes conditions) holds → ⊥
  dropped_write old new slot changes conditions holds is = true≢false is.no_write

-- no call takes down a node whose devices have not failed, and have room
abbrev untouched : State
untouched = record { seen = []; durable = []; written = []; stopped = false; failures = 0 }

-- devices of a node that failed since, or have no room: between these and those
abbrev HaveCause : State × State → State × State → Type 0
HaveCause old new = HasFailed old.0 new.0 ⊎ (HasFailed old.1 new.1 ⊎ (IsNearlyFull old.0 ⊎ (IsNearlyFull old.1 ⊎ (IsNearlyFull new.0 ⊎ IsNearlyFull new.1))))

no_cause : HaveCause (untouched, untouched) (untouched, untouched) → ⊥
no_cause cause = ⊎_elim not_failed (λ rest. ⊎_elim not_failed (λ full. ⊎_elim (λ is. omega (arith, is)) (λ more. ⊎_elim (λ is. omega (arith, is)) (λ behind. ⊎_elim (λ is. omega (arith, is)) (λ is. omega (arith, is)) behind) more) full) rest) cause
  where
    not_failed : HasFailed untouched untouched → ⊥
    not_failed failed = ⊎_elim (λ is. omega (arith, is)) (λ is. omega (arith, is)) failed

down_for_nothing : (honest : State → Type 0) (moment : State → ℕ) (left_since : State → ℕ → List ℕ → Type 0) (old new : Store State)
    → IsCalled (λ (s : State). s) honest moment left_since 7 1 (shard 0) (views.shard (up_shard untouched untouched 7)) (views.shard (record (up_shard untouched untouched 7) { is_down = true })) old new → ⊥
down_for_nothing honest moment left_since old new call =
    let cause = call.fails refl up_is_not_down in
    let as_before = subst (λ (p : State × State). HaveCause p (new.devices (shard 0))) call.before.devices cause in
    no_cause (subst (HaveCause (untouched, untouched)) call.after.devices as_before)
  where
    up_is_not_down : up [] [] ≢ down
    up_is_not_down is = cc
