-- The coordinator of a store that stands stages one more record: what is known of the nodes then.
use Rattle.std.proofs.Common.{◌≡◌, ◌⊎◌, inl, inr, ⊎_elim, ℕ, ◌≤◌, false, List, [], ◌∷◌, ◌++◌, Contains, refl, sym, ◌∙◌, ap, subst, append_assoc, arith}
use Rattle.std.proofs.lemmas.List.Elements.{Contains-push_cases}
use Rattle.stores.proofs.Words.{CoordinatorKnows, CoordinatorState, Epoch, IsOfRefusedOpening, Moment, NodeName, NodeState, Nodes, NodesStand, Record, Refusal, Stands, coordinator, coordinator_push, coordinator_state, down, leaves, refused, shard, staged_of, up}
use Rattle.records.specs.Coordinators.{coordinator_step}
use Rattle.stores.proofs.Frames.{IsTaken}
use Rattle.stores.proofs.ShardStages.{durable_in}

module _ (store shards : ℕ) (left : NodeName → List Record → Type 0) (now : Moment) (next : Nodes) (stands : Stands store shards left now) (r : Record) (durable staged : List Record)
    (was : now.nodes.at coordinator ≡ up durable staged) (is_now : next.at coordinator ≡ up durable (staged ++ r ∷ [])) (same : (s : ℕ) → next.at (shard s) ≡ now.nodes.at (shard s)) where
  pub knew : CoordinatorKnows now.nodes (coordinator_state durable) (coordinator_state (durable ++ staged))
  knew = record { durable = durable; staged = staged; is_up = was; durable_state = refl; replayed = refl }

  -- what the coordinator knows now: the same is durable, and it has one more record
  pub knows_now : (kept m : CoordinatorState) → CoordinatorKnows next kept m → (kept ≡ coordinator_state durable) × (m ≡ coordinator_step (coordinator_state (durable ++ staged)) r)
  knows_now kept m k =
      let both : up k.durable k.staged ≡ up durable (staged ++ r ∷ []) = sym k.is_up ∙ is_now in (
        k.durable_state ∙ ap coordinator_state (ap durable_in both),
        k.replayed
            ∙ ap (λ (l : List Record). coordinator_state (l ++ k.staged)) (ap durable_in both)
            ∙ ap (λ (l : List Record). coordinator_state (durable ++ l)) (ap staged_of both)
            ∙ ap coordinator_state (sym (append_assoc durable staged (r ∷ [])))
            ∙ coordinator_push (durable ++ staged) r,
      )

  pub coordinator_left : (found : List Record) → leaves left next coordinator found → leaves left now.nodes coordinator found ⊎ (found ≡ (durable ++ staged) ++ r ∷ [])
  coordinator_left found is = ⊎_elim
      (λ plain. inl (is.0, is.1, inl plain))
      (λ more. inr (more
      ∙ ap (λ (l : List Record). is.0 ++ l) (ap staged_of is_now)
      ∙ ap (λ (l : List Record). l ++ (staged ++ r ∷ [])) ((stands.nodes.durable coordinator durable staged is.0 was).0 is.1)
      ∙ sym (append_assoc durable staged (r ∷ []))))
      is.2

  pub here : leaves left now.nodes coordinator (durable ++ staged)
  here = (durable, (stands.nodes.durable coordinator durable staged durable was).1 refl, inr (ap (λ (l : List Record). durable ++ l) (sym (ap staged_of was))))

  -- what a coordinator that is up has, with what is staged
  pub all_of : (d g : List Record) → next.at coordinator ≡ up d g → (durable ++ staged) ++ r ∷ [] ≡ d ++ g
  all_of d g is =
      let both : up durable (staged ++ r ∷ []) ≡ up d g = sym is_now ∙ is in
      append_assoc durable staged (r ∷ []) ∙ ap (λ (l : List Record). l ++ (staged ++ r ∷ [])) (ap durable_in both) ∙ ap (λ (l : List Record). d ++ l) (ap staged_of both)

  -- a raise that was taken still is, if the horizon that the coordinator knows does not fall
  pub still_taken : (later : Moment) → later.nodes.at coordinator ≡ next.at coordinator → now.machine.horizon ≤ later.machine.horizon
      → (coordinator_state (durable ++ staged)).horizon ≤ (coordinator_state (durable ++ (staged ++ r ∷ []))).horizon
      → (x : ℕ) → IsTaken shards left left now later false left now x → IsTaken shards left left now later false left later x
  still_taken later at higher rises x is = ⊎_elim
      (λ low. inl (omega (arith, low, higher)))
      (λ rest. ⊎_elim
      (λ found.
      let both : up found.durable found.staged ≡ up durable staged = sym found.is_up ∙ was in
      let enough : x ≤ (coordinator_state (durable ++ staged)).horizon = subst (λ (l : NodeState). x ≤ (coordinator_state (durable_in l ++ staged_of l)).horizon) both found.enough in
      inr (inl (record { durable = durable; staged = staged ++ r ∷ []; is_up = at ∙ is_now; enough = omega (arith, enough, rises) })))
      (λ gone. let both : up durable staged ≡ down = sym was ∙ gone in absurd cc)
      rest)
      is

  module _ (no_epoch : (a b c d : ℕ) → r ≡ Epoch a b c d → ⊥) where
    node_was : (n : NodeName) (d g : List Record) → next.at n ≡ up d g → (now.nodes.at n ≡ up d g) ⊎ ((n ≡ coordinator) × (d ≡ durable) × (g ≡ staged ++ r ∷ []))
    node_was coordinator d g is = let both : up d g ≡ up durable (staged ++ r ∷ []) = sym is ∙ is_now in inr (refl, ap durable_in both, ap staged_of both)
    node_was (shard t) d g is = inl (sym (same t) ∙ is)

    not_damaged : (n : NodeName) (e : Refusal) → next.at n ≡ refused e → IsOfRefusedOpening e
    not_damaged coordinator e is = let both : refused e ≡ up durable (staged ++ r ∷ []) = sym is ∙ is_now in absurd cc
    not_damaged (shard t) e is = stands.nodes.sound (shard t) e (sym (same t) ∙ is)

    pub nodes_kept : NodesStand store shards left next
    nodes_kept = record {
      durable = λ n d g found is. ⊎_elim
          (λ old. stands.nodes.durable n d g found old)
          (λ fresh.
          let old : now.nodes.at n ≡ up d staged = ap now.nodes.at fresh.0 ∙ was ∙ ap (λ (l : List Record). up l staged) (sym fresh.1) in
          stands.nodes.durable n d staged found old)
          (node_was n d g is);
      no_opening = λ n d g a b c e is has. ⊎_elim
          (λ old. stands.nodes.no_opening n d g a b c e old has)
          (λ fresh. ⊎_elim
          (λ old. stands.nodes.no_opening coordinator durable staged a b c e was old)
          (λ new. no_epoch a b c e new)
          (Contains-push_cases staged r (Epoch a b c e) (subst (λ (l : List Record). Contains l (Epoch a b c e)) fresh.2 has)))
          (node_was n d g is);
      coordinator_opened = λ kept m k. subst (λ (c : CoordinatorState). 1 ≤ c.epoch) (sym (knows_now kept m k).0) (stands.nodes.coordinator_opened (coordinator_state durable) (coordinator_state (durable ++ staged)) knew);
      shard_opened = λ t d g is. stands.nodes.shard_opened t d g (sym (same t) ∙ is);
      sound = not_damaged;
    }
