-- A shard of a store that stands stages one more record, and the store stands as before.
use Rattle.std.proofs.Common.{◌≡◌, ◌⊎◌, inl, inr, ⊎_elim, ℕ, ◌≤◌, List, [], ◌∷◌, ◌++◌, length, Some, Contains, refl, sym, ◌∙◌, ap, subst, arith, false}
use Rattle.std.proofs.lemmas.List.Elements.{Contains-push_cases}
use Rattle.stores.proofs.Words.{AreApart, AreNew, Entry, Epoch, FlowsStand, HeadsStand, IdsStand, IsOfRefusedOpening, IsStaging, ListedStand, LocksStand, Means, Moment, NodeName, NodeState, Nodes, NodesStand, Record, Refusal, Rests, Running, ShardMeans, Stands, WasGiven, at_shards, coordinator, doubts_apart, id_of, leaves, less_rests, refused, same_or_not, shard, shard_node, shard_state, staged_of, up, whole_rests, with_nodes}
use Rattle.stores.proofs.ShardStages.{coordinator_knew, coordinator_left, durable_in, given_kept, left_now, longer, memory, memory_left, was_open, same_coordinator, same_given, same_open, shard_number, verdict_kept}
use Rattle.stores.proofs.ShardStagesFlows.{StagesDoubts, kept_flow}
pub use Rattle.tuples.proofs.Lists.{contained_at, contained_from}

module _ (store shards : ℕ) (left : NodeName → List Record → Type 0) (now : Moment) (next : Nodes) (s : ℕ) (r : Record) (st : IsStaging store shards left now next s r) where
  -- The record is not an opening, leaves all nodes at rest, and prepares only what was given out.
  pub record IsHarmless : Type 1 where
    pub no_epoch : (epoch store' shards' node : ℕ) → r ≡ Epoch epoch store' shards' node → ⊥
    pub rests : (stops : List Record → Type 0) (kept : ℕ) → now.machine.kept ≤ kept → ((c : List Record) → stops c → leaves left now.nodes coordinator c)
        → Rests store shards now.machine.log kept now.machine.horizon stops (at_shards (leaves left now.nodes))
        → Rests store shards now.machine.log kept now.machine.horizon stops (at_shards (leaves left next))
    pub given : (w : Entry) → Contains (shard_state (longer store shards left now next s r st)).in_doubt w
        → Contains (shard_state (memory store shards left now next s r st)).in_doubt w ⊎ WasGiven shards left now.nodes w.id
    pub means : ShardMeans shards s now.machine.log now.machine.horizon now.machine.horizon (shard_state (memory store shards left now next s r st))
        → ShardMeans shards s now.machine.log now.machine.horizon now.machine.horizon (shard_state (longer store shards left now next s r st))

  -- the record prepares no part of this flow's write
  abbrev pub IsNoneOf : Running → Type 0
  IsNoneOf f = (w : Entry) → id_of f.holds ≡ Some w.id → StagesDoubts store shards left now next s r st false w

  module _ (harmless : IsHarmless) where
    node_was : (n : NodeName) (d g : List Record) → next.at n ≡ up d g → (now.nodes.at n ≡ up d g) ⊎ ((n ≡ shard s) × (d ≡ st.step.durable) × (g ≡ st.step.staged ++ r ∷ []))
    node_was coordinator d g is = inl (sym (same_coordinator store shards left now next s r st) ∙ is)
    node_was (shard t) d g is = ⊎_elim
        (λ (same : t ≡ s).
        let both : up d g ≡ up st.step.durable (st.step.staged ++ r ∷ []) = sym is ∙ ap (λ (j : ℕ). next.at (shard j)) same ∙ st.step.now in
        inr (ap shard same, ap durable_in both, ap staged_of both))
        (λ ne. inl (sym (st.step.others.others (shard t) (λ same. ne (ap shard_number same))) ∙ is))
        (same_or_not t s)

    nodes_kept : NodesStand store shards left next
    nodes_kept = record {
      durable = λ n d g found is. ⊎_elim
          (λ was. st.stands.nodes.durable n d g found was)
          (λ fresh.
          let was : now.nodes.at n ≡ up d st.step.staged = ap now.nodes.at fresh.0 ∙ st.step.was ∙ ap (λ (l : List Record). up l st.step.staged) (sym fresh.1) in
          st.stands.nodes.durable n d st.step.staged found was)
          (node_was n d g is);
      no_opening = λ n d g epoch store' shards' node is has. ⊎_elim
          (λ was. st.stands.nodes.no_opening n d g epoch store' shards' node was has)
          (λ fresh. ⊎_elim
          (λ old. st.stands.nodes.no_opening (shard s) st.step.durable st.step.staged epoch store' shards' node st.step.was old)
          (λ new. harmless.no_epoch epoch store' shards' node new)
          (Contains-push_cases st.step.staged r (Epoch epoch store' shards' node) (subst (λ (l : List Record). Contains l (Epoch epoch store' shards' node)) fresh.2 has)))
          (node_was n d g is);
      coordinator_opened = λ kept m knows. st.stands.nodes.coordinator_opened kept m (coordinator_knew store shards left now next s r st kept m knows);
      shard_opened = λ t d g is. ⊎_elim
          (λ was. st.stands.nodes.shard_opened t d g was)
          (λ fresh. subst (λ (l : List Record). 1 ≤ (shard_state l).epoch) (sym fresh.1) (st.stands.nodes.shard_opened s st.step.durable st.step.staged st.step.was))
          (node_was (shard t) d g is);
      sound = not_damaged;
    }
      where
        not_damaged : (n : NodeName) (e : Refusal) → next.at n ≡ refused e → IsOfRefusedOpening e
        not_damaged coordinator e is = st.stands.nodes.sound coordinator e (sym (same_coordinator store shards left now next s r st) ∙ is)
        not_damaged (shard t) e is = ⊎_elim
            (λ (same : t ≡ s). let both : refused e ≡ up st.step.durable (st.step.staged ++ r ∷ []) = sym is ∙ ap (λ (j : ℕ). next.at (shard j)) same ∙ st.step.now in absurd cc)
            (λ ne. st.stands.nodes.sound (shard t) e (sym (st.step.others.others (shard t) (λ same. ne (ap shard_number same))) ∙ is))
            (same_or_not t s)

    whole_kept : (d g : List Record) → next.at coordinator ≡ up d g → Means store shards now.machine.log now.machine.horizon (d ++ g) (at_shards (leaves left next))
    whole_kept d g is =
        let was : now.nodes.at coordinator ≡ up d g = sym (same_coordinator store shards left now next s r st) ∙ is in
        let m = st.stands.heads.whole d g was in
        let le : now.machine.horizon ≤ length now.machine.log = omega (arith, st.stands.rests.horizon, st.stands.rests.within) in
        let only = λ (c : List Record). c ≡ d ++ g in
        let here : leaves left now.nodes coordinator (d ++ g) = (d, (st.stands.nodes.durable coordinator d g d was).1 refl, inr (ap (λ (n : NodeState). d ++ staged_of n) (sym was))) in
        let before = (whole_rests only only (at_shards (leaves left now.nodes)) (at_shards (leaves left now.nodes)) store shards now.machine.log now.machine.horizon (d ++ g) st.stands.rests.is_log le).0 m in
        let after = harmless.rests only (length now.machine.log) st.stands.rests.within (λ c same. subst (leaves left now.nodes coordinator) (sym same) here) before in
        (whole_rests only only (at_shards (leaves left next)) (at_shards (leaves left next)) store shards now.machine.log now.machine.horizon (d ++ g) st.stands.rests.is_log le).1 after

    heads_kept : HeadsStand store shards left next now.machine
    heads_kept = record {
      log = λ kept m knows. st.stands.heads.log kept m (coordinator_knew store shards left now next s r st kept m knows);
      kept = λ kept m knows. st.stands.heads.kept kept m (coordinator_knew store shards left now next s r st kept m knows);
      horizon = λ kept m knows. st.stands.heads.horizon kept m (coordinator_knew store shards left now next s r st kept m knows);
      whole = whole_kept;
    }

    locks_kept : LocksStand store shards left next
    locks_kept t found lt is = ⊎_elim
        (λ before. st.stands.locks t found lt before)
        (λ after. subst (λ (l : List Record). AreApart (shard_state l).in_doubt) (sym after.1) (doubts_apart (shard_node store shards s) (longer store shards left now next s r st) st.image))
        (left_now store shards left now next s r st t found is)

    listed_kept : ListedStand store shards left next now.machine
    listed_kept t found lt is = ⊎_elim
        (λ before. st.stands.listed t found lt before)
        (λ after.
        let now_means = harmless.means (st.stands.listed s (memory store shards left now next s r st) st.there (memory_left store shards left now next s r st)) in
        subst (λ (l : List Record). ShardMeans shards t now.machine.log now.machine.horizon now.machine.horizon (shard_state l)) (sym after.1)
        (subst (λ (k : ℕ). ShardMeans shards k now.machine.log now.machine.horizon now.machine.horizon (shard_state (longer store shards left now next s r st))) (sym after.0) now_means))
        (left_now store shards left now next s r st t found is)

    rests_kept : Rests store shards now.machine.log now.machine.kept now.machine.horizon (leaves left next coordinator) (at_shards (leaves left next))
    rests_kept =
        let stops = leaves left now.nodes coordinator in
        let after = harmless.rests stops now.machine.kept (omega arith) (λ c is. is) st.stands.rests in
        (less_rests stops (leaves left next coordinator) (at_shards (leaves left next)) (at_shards (leaves left next)) store shards now.machine.log now.machine.kept now.machine.horizon
        (coordinator_left store shards left now next s r st) (λ t found is. is)).0 after

    ids_kept : IdsStand store shards left next now.machine
    ids_kept = record {
      distinct = subst AreNew (sym (same_open store shards left now next s r st)) st.stands.ids.distinct;
      few = subst (λ (l : List Entry). length l ≤ 1024) (sym (same_open store shards left now next s r st)) st.stands.ids.few;
      unlisted = λ w here. st.stands.ids.unlisted w (was_open store shards left now next s r st w here);
      of_now = λ w here kept m knows.
          let was = st.stands.ids.of_now w (was_open store shards left now next s r st w here) kept m (coordinator_knew store shards left now next s r st kept m knows) in
          (was.0, subst (λ (n : ℕ). w.id.number ≤ n) (sym (same_given store shards left now next s r st)) was.1);
      log_given = λ w here. given_kept store shards left now next s r st w.id (st.stands.ids.log_given w here);
      prepares_given = λ t found w lt is has. ⊎_elim
          (λ before. given_kept store shards left now next s r st w.id (st.stands.ids.prepares_given t found w lt before has))
          (λ after. given_kept store shards left now next s r st w.id (⊎_elim
          (λ was. st.stands.ids.prepares_given s (memory store shards left now next s r st) w st.there (memory_left store shards left now next s r st) was)
          (λ fresh. fresh)
          (harmless.given w (subst (λ (l : List Record). Contains (shard_state l).in_doubt w) after.1 has))))
          (left_now store shards left now next s r st t found is);
    }

    -- with flows that stand then, the store stands
    pub stands_with : (running : List Running) → FlowsStand store shards left (record (with_nodes now next) { running = running }) → Stands store shards left (record (with_nodes now next) { running = running })
    stands_with running flows = record {
      rests = rests_kept;
      nodes = nodes_kept;
      heads = heads_kept;
      listed = listed_kept;
      locks = locks_kept;
      ids = ids_kept;
      flows = flows;
      told = λ j d lt. let v = verdict_kept store shards left now next s r st _ (st.stands.told j d lt) in record { given = v.given; closed = v.closed; none = v.none };
    }

    pub stands_kept : ((f : Running) → Contains now.running f → IsNoneOf f) → Stands store shards left (with_nodes now next)
    stands_kept keeps = stands_with now.running (record {
      few = st.stands.flows.few;
      slots = st.stands.flows.slots;
      ids = st.stands.flows.ids;
      held = λ f there. kept_flow store shards left now next s r st f (keeps f there) (st.stands.flows.held f there);
      seen = st.stands.flows.seen;
      quiet = st.stands.flows.quiet;
    })
