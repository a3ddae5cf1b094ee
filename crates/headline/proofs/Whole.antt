-- The opening of a whole store keeps the promise of an opening.
use Rattle.std.proofs.Common.{◌≡◌, inl, inr, ⊎_elim, ◌≤◌, ◌<◌, ◌+◌, ◌*◌, ℕ, zero, suc, List, [], ◌∷◌, get_or, length, Option, Some, None, refl, sym, ◌∙◌, ap, subst, arith}
use Rattle.std.proofs.lemmas.Option.{get_or_from_slice_get, slice_get_within}
use Rattle.headline.proofs.Words.{AreOpened, ComesUp, Down, Flow, IsNode, IsThere, NodeName, NodeView, OpensWithCause, Reopened, Running, Shows, ShowsMemory, ShowsSlot, State, Store, WorldView, closed_nodes, coordinator, devices_at, devices_of, down, index_of, left, named, node_at, shard, shown, stops}
use Rattle.calls.specs.Views as views
use Rattle.cluster.specs.Openings.{name_at}
use Rattle.stores.specs.Moments.{flow_at}
use Rattle.turns.specs.Reopens.{Reopens}
use Rattle.headline.specs.Promised.{OpeningsKeep}
use Rattle.headline.proofs.Begun.{begins}
use Rattle.headline.proofs.Causes.{opens_with_cause}
use Rattle.headline.proofs.Closed.{closed_rests}
use Rattle.headline.proofs.Inside.{inside, sound_now}
use Rattle.headline.proofs.Memory.{opened_node, same_memory, shard_memory, with_node}
use Rattle.headline.proofs.Opened.{at_opened, devices as devices_opened, holds_on, opened_up_to, states as states_opened}
use Rattle.headline.proofs.Stepped.{given_behind}

module _ {D : Type 0} (state : D → State) (honest : D → Type 0) (moment : D → ℕ) (left_since : D → ℕ → List ℕ → Type 0) (store shards : ℕ) (any : D) where
  -- what stands for a node that is not there
  abbrev nowhere : NodeView D
  nowhere = views.refused Down any any

  -- each node was opened over the two devices at its place
  opened_at : (place : ℕ) (devices : List D) (nodes : List (NodeView D)) → AreOpened state honest moment left_since store shards place devices nodes → (i : ℕ) → i < length nodes
      → Reopened state honest moment left_since store shards (name_at (place + i)) (get_or devices (2 * i) any) (get_or devices (2 * i + 1) any) (get_or nodes i nowhere)
  opened_at place [] [] all i lt = absurd (omega (arith, lt))
  opened_at place [] (v ∷ nodes) all i lt = absurd all
  opened_at place (a ∷ []) [] all i lt = absurd all
  opened_at place (a ∷ []) (v ∷ nodes) all i lt = absurd all
  opened_at place (a ∷ b ∷ devices) [] all i lt = absurd all
  opened_at place (a ∷ b ∷ devices) (v ∷ nodes) all zero lt =
      subst (λ (j : ℕ). Reopened state honest moment left_since store shards (name_at j) a b v) (let same : place ≡ place + 0 = omega arith in same) all.0
  opened_at place (a ∷ b ∷ devices) (v ∷ nodes) all (suc i) lt =
      let rest = opened_at (suc place) devices nodes all.1 i (omega (arith, lt)) in
      let first : get_or devices (2 * i) any ≡ get_or (a ∷ b ∷ devices) (2 * suc i) any = ap (λ (j : ℕ). get_or (a ∷ b ∷ devices) j any) (let twice : suc (suc (2 * i)) ≡ 2 * suc i = omega arith in twice) in
      let second : get_or devices (2 * i + 1) any ≡ get_or (a ∷ b ∷ devices) (2 * suc i + 1) any = ap (λ (j : ℕ). get_or (a ∷ b ∷ devices) j any) (let twice : suc (suc (2 * i + 1)) ≡ 2 * suc i + 1 = omega arith in twice) in
      subst (λ (j : ℕ). Reopened state honest moment left_since store shards (name_at j) (get_or (a ∷ b ∷ devices) (2 * suc i) any) (get_or (a ∷ b ∷ devices) (2 * suc i + 1) any) (get_or nodes i nowhere))
      (let same : suc place + i ≡ place + suc i = omega arith in same)
      (subst (λ (x : D). Reopened state honest moment left_since store shards (name_at (suc place + i)) (get_or (a ∷ b ∷ devices) (2 * suc i) any) x (get_or nodes i nowhere)) second
      (subst (λ (x : D). Reopened state honest moment left_since store shards (name_at (suc place + i)) x (get_or devices (2 * i + 1) any) (get_or nodes i nowhere)) first rest))

  -- so there are two devices for each
  opened_count : (place : ℕ) (devices : List D) (nodes : List (NodeView D)) → AreOpened state honest moment left_since store shards place devices nodes → length devices ≡ 2 * length nodes
  opened_count place [] [] all = refl
  opened_count place [] (v ∷ nodes) all = absurd all
  opened_count place (a ∷ []) [] all = absurd all
  opened_count place (a ∷ []) (v ∷ nodes) all = absurd all
  opened_count place (a ∷ b ∷ devices) [] all = absurd all
  opened_count place (a ∷ b ∷ devices) (v ∷ nodes) all = let rest = opened_count (suc place) devices nodes all.1 in omega (arith, rest)

  module _ (devices : List D) (nodes : List (NodeView D)) (count : length devices ≡ 2 * (shards + 1)) (all : AreOpened state honest moment left_since store shards 0 devices nodes) where
    node_count : length nodes ≡ shards + 1
    node_count = let two = opened_count 0 devices nodes all in omega (arith, two, count)

    abbrev node : NodeName → NodeView D
    node n = get_or nodes (index_of (named n)) nowhere

    reopened : (n : NodeName) → IsThere shards n → Reopened state honest moment left_since store shards (named n) (devices_at any devices n).0 (devices_at any devices n).1 (node n)
    reopened coordinator there = opened_at 0 devices nodes all 0 (let c = node_count in omega (arith, c))
    reopened (shard s) there =
        subst (λ (j : ℕ). Reopened state honest moment left_since store shards (name_at j) (get_or devices (2 * (s + 1)) any) (get_or devices (2 * (s + 1) + 1) any) (node (shard s)))
        (let same : 0 + (s + 1) ≡ suc s = omega arith in same)
        (opened_at 0 devices nodes all (s + 1) (let c = node_count in omega (arith, c, there)))

    -- a node that is found has a place
    found_there : (n : NodeName) (v : NodeView D) → node_at nodes (named n) ≡ Some v → IsThere shards n × (v ≡ node n)
    found_there n v is = (by_place n (slice_get_within nodes (index_of (named n)) v is), sym (get_or_from_slice_get nodes (index_of (named n)) v nowhere is))
      where
        by_place : (n : NodeName) → index_of (named n) < length nodes → IsThere shards n
        by_place coordinator lt = tt
        by_place (shard s) lt = let c = node_count in omega (arith, c, lt)

-- a world of a store that was just opened
abbrev opened_world : {D : Type 0} → List (NodeView D) → ℕ → ℕ → List (Option Flow) → WorldView D
opened_world nodes store shards flows = record { store = store; shards = shards; nodes = nodes; flows = flows }

module _ {D : Type 0} (state : D → State) (honest : D → Type 0) (moment : D → ℕ) (left_since : D → ℕ → List ℕ → Type 0)
    (counts_now : (d : D) (t : ℕ) (c : List ℕ) → honest d → t ≤ moment d → left (state d) c → left_since d t c) (only_now : (d : D) (c : List ℕ) → honest d → left_since d (moment d) c → left (state d) c)
    (any : D) (devices : List D) (store shards : ℕ) (nodes : List (NodeView D)) (some : 1 ≤ shards) (count : length devices ≡ 2 * (shards + 1))
    (all : AreOpened state honest moment left_since store shards 0 devices nodes) where
  abbrev old : NodeName → D × D
  old = devices_at any devices

  abbrev each : NodeName → NodeView D
  each = node state honest moment left_since store shards any devices nodes count all

  each_reopened : (n : NodeName) → IsThere shards n → Reopened state honest moment left_since store shards (named n) (old n).0 (old n).1 (each n)
  each_reopened = reopened state honest moment left_since store shards any devices nodes count all

  abbrev later : Store D
  later = record {
    devices = devices_opened state honest moment left_since counts_now only_now store shards old each shards;
    at = states_opened state honest moment left_since counts_now only_now store shards old each shards;
    open_ids = [];
    given = given_behind coordinator (each coordinator) 0;
    flows = λ slot. None;
  }

  devices_there : (n : NodeName) → IsThere shards n → later.devices n ≡ devices_of (each n)
  devices_there n there = at_opened (λ j. devices_of (each j)) old shards n there

  at_there : (n : NodeName) → IsThere shards n → later.at n ≡ shown (each n)
  at_there n there = at_opened (λ j. shown (each j)) (λ j. down) shards n there

  memory_there : (n : NodeName) → IsThere shards n → ShowsMemory (each n) later
  memory_there coordinator there =
      let opened = opened_node state honest moment left_since store shards coordinator (old coordinator).0 (old coordinator).1 (each coordinator) (record later { given = 0 }) (each_reopened coordinator tt) in
      same_memory (each coordinator) (with_node (record later { given = 0 }) coordinator (each coordinator)) later refl refl opened.1
  memory_there (shard s) there =
      let opened = opened_node state honest moment left_since store shards (shard s) (old (shard s)).0 (old (shard s)).1 (each (shard s)) later (each_reopened (shard s) there) in
      shard_memory store shards s (each (shard s)) later opened.0

  shows_opened : Shows (opened_world nodes store shards []) later
  shows_opened = record {
    some = some;
    count = node_count state honest moment left_since store shards any devices nodes count all;
    nodes = λ n v is.
        let found = found_there state honest moment left_since store shards any devices nodes count all n v is in
        subst (IsNode store shards later n) (sym found.1) (record {
          there = found.0;
          named = (opened_node state honest moment left_since store shards n (old n).0 (old n).1 (each n) later (each_reopened n found.0)).0;
          devices = devices_there n found.0;
          at = at_there n found.0;
          memory = memory_there n found.0;
        });
    flows = λ slot. tt;
  }

  reopens : Reopens state honest moment left_since store shards old later
  reopens m told rests told_over =
      let begun = begins state honest moment left_since counts_now only_now store shards old m told (each coordinator) rests told_over (each_reopened coordinator tt) rests.listed in
      let u = opened_up_to state honest moment left_since counts_now only_now store shards old each rests.sound each_reopened m told begun shards (omega arith) in
      let holds = holds_on state honest moment left_since counts_now only_now store shards old each rests.sound each_reopened shards in
      let causes : (n : NodeName) → IsThere shards n → OpensWithCause state honest moment left_since store shards old later.devices n (shown (each n))
      = λ n there. opens_with_cause state honest moment left_since store shards old later.devices n (each n) (rests.sound.honest_a n there) (rests.sound.honest_b n there) (each_reopened n there) (devices_there n there) in (
        record {
          after = u.after;
          opened = u.opened;
          running = u.running;
          told_before = u.told_before;
          named = u.named;
          nodes = λ n there. ⊎_elim
              (λ up. inl (subst (ComesUp state honest moment left_since store shards old n) (sym (at_there n there)) ((causes n there).came_up up.0 [] up.1)))
              (λ out. inr (out.0, at_there n there ∙ out.1, out.2))
              (u.fine n there);
          causes = λ n there. subst (OpensWithCause state honest moment left_since store shards old later.devices n) (sym (at_there n there)) (causes n there);
          kept = u.kept;
          stands = record {
            sound = sound_now state honest moment left_since counts_now only_now store shards old later.devices holds;
            nodes = record { at = u.at; open_ids = u.open_ids; given = u.given };
            flows = λ slot. subst (λ (l : List Running). ShowsSlot (flow_at slot l) None) (sym u.running) tt;
            stands = u.stands;
          };
        },
        inside state honest moment left_since counts_now only_now store shards old later.devices holds closed_nodes m u.after.machine (closed_rests store shards (stops state honest store shards old) m rests.rests),
      )

module _ {D : Type 0} (state : D → State) (honest : D → Type 0) (moment : D → ℕ) (left_since : D → ℕ → List ℕ → Type 0)
    (counts_now : (d : D) (t : ℕ) (c : List ℕ) → honest d → t ≤ moment d → left (state d) c → left_since d t c) (only_now : (d : D) (c : List ℕ) → honest d → left_since d (moment d) c → left (state d) c) where
  pub openings_keep : OpeningsKeep state honest moment left_since
  openings_keep any devices store shards new some few count over = record {
    later = later state honest moment left_since counts_now only_now any devices store shards new.nodes some count over.nodes;
    shows = subst (λ (l : List (Option Flow)). Shows (opened_world new.nodes new.store new.shards l) then) (sym over.flows)
        (subst (λ (x : ℕ). Shows (opened_world new.nodes new.store x []) then) (sym over.shards_is)
        (subst (λ (x : ℕ). Shows (opened_world new.nodes x shards []) then) (sym over.store_is)
        (shows_opened state honest moment left_since counts_now only_now any devices store shards new.nodes some count over.nodes)));
    reopens = reopens state honest moment left_since counts_now only_now any devices store shards new.nodes some count over.nodes;
  }
    where
      then : Store D
      then = later state honest moment left_since counts_now only_now any devices store shards new.nodes some count over.nodes
