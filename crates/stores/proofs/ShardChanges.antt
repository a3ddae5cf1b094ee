-- One shard is changed, and no other node, and what a stop leaves of it takes the place of what it could leave: what the store stands for stays.
use Rattle.std.proofs.Common.{◌≡◌, ◌≢◌, ◌⊎◌, ◌↔◌, inl, inr, ⊎_elim, ℕ, ◌≤◌, ◌<◌, List, [], ◌++◌, Contains, refl, sym, ◌∙◌, ap, subst, arith, append-nil}
use Rattle.stores.proofs.Words.{Epoch, IsOfRefusedOpening, IsShardEpoch, Moment, NodeName, NodeState, Nodes, NodesStand, Record, Refusal, SameBut, ShardKnows, ShardState, Stands, at_shards, coordinator, down, leaves, refused, same_or_not, shard, shard_state, staged_of, up, with_nodes}
use Rattle.stores.proofs.LessLeftFlows.{GoesOn, stands_on}
use Rattle.stores.proofs.Places.{IsInPlace, means_in_place, rests_in_place, still_in_place, still_means}
use Rattle.stores.proofs.ShardStages.{durable_in, is_shard, shard_number}

module _ (store shards s : ℕ) (left after : NodeName → List Record → Type 0) (now : Moment) (next : Nodes) where
  -- what a shard that knows this knew before: as much, or it is of a later epoch
  abbrev KnewAs : ℕ → ShardState → Type 0
  KnewAs t m = ((old : ShardState) × ShardKnows now.nodes t old × (old.in_doubt ≡ m.in_doubt) × (old.epoch ≡ m.epoch)) ⊎ ((epoch : ℕ) → IsShardEpoch (left (shard t)) epoch → epoch < m.epoch)

  -- It is up with nothing staged, and a stop leaves its durable records alone. Its opening is among them.
  pub record IsUpWith (durable staged : List Record) : Type 0 where
    pub none_staged : staged ≡ []
    pub here : (rs : List Record) → after (shard s) rs ↔ (rs ≡ durable)
    pub opened : 1 ≤ (shard_state durable).epoch
    pub knew : KnewAs s (shard_state durable)

  -- What a stop leaves of it takes the place of what it could leave, with what was staged or without; and it is of no lower epoch, and has learned no
  -- less, than something that it could leave without.
  pub record ChangesShard : Type 0 where
    pub stands : Stands store shards left now
    pub others : SameBut (shard s) now.nodes next
    pub same : (n : NodeName) (rs : List Record) → n ≢ shard s → after n rs ↔ left n rs
    pub here : (rs : List Record) → after (shard s) rs → IsInPlace store shards left now.nodes s rs
    pub no_less : (rs : List Record) → after (shard s) rs
        → (old : List Record) × left (shard s) old × ((shard_state old).epoch ≤ (shard_state rs).epoch) × ((shard_state old).learned ≤ (shard_state rs).learned)
    pub up_with : (durable staged : List Record) → next.at (shard s) ≡ up durable staged → IsUpWith durable staged
    pub sound : (e : Refusal) → next.at (shard s) ≡ refused e → IsOfRefusedOpening e

  -- so it is if it has these records
  pub up_as : (records : List Record) → next.at (shard s) ≡ up records [] → IsUpWith records [] → (durable staged : List Record) → next.at (shard s) ≡ up durable staged → IsUpWith durable staged
  up_as records now_up it durable staged is = subst (λ (n : NodeState). IsUpWith (durable_in n) (staged_of n)) (sym now_up ∙ is) it

  module _ (on : ChangesShard) where
    not_here : coordinator ≢ shard s
    not_here same = let e : 0 ≡ 1 = ap is_shard same in absurd (omega (arith, e))

    nor_here : shard s ≢ coordinator
    nor_here same = not_here (sym same)

    other : (t : ℕ) → t ≢ s → shard t ≢ shard s
    other t ne same = ne (ap shard_number same)

    there : (n : NodeName) → n ≢ shard s → (rs : List Record) → leaves after next n rs → leaves left now.nodes n rs
    there n ne rs is = (is.0, (on.same n is.0 ne).0 is.1, ⊎_elim (λ plain. inl plain) (λ more. inr (more ∙ ap (λ (m : NodeState). is.0 ++ staged_of m) (on.others.others n ne))) is.2)

    none_staged : (n : NodeState) → next.at (shard s) ≡ n → staged_of n ≡ []
    none_staged (up durable staged) is = (on.up_with durable staged is).none_staged
    none_staged down is = refl
    none_staged (refused e) is = refl

    here : (rs : List Record) → leaves after next (shard s) rs → IsInPlace store shards left now.nodes s rs
    here rs is =
        let same : rs ≡ is.0 = ⊎_elim (λ plain. plain) (λ more. more ∙ ap (λ (l : List Record). is.0 ++ l) (none_staged (next.at (shard s)) refl) ∙ append-nil is.0) is.2 in
        subst (IsInPlace store shards left now.nodes s) (sym same) (on.here is.0 is.1)

    at_shard : (t : ℕ) (rs : List Record) → leaves after next (shard t) rs → IsInPlace store shards left now.nodes t rs
    at_shard t rs is = ⊎_elim
        (λ (same : t ≡ s). subst (λ (k : ℕ). IsInPlace store shards left now.nodes k rs) (sym same) (here rs (subst (λ (k : ℕ). leaves after next (shard k) rs) same is)))
        (λ ne. still_in_place store shards left now.nodes t rs (there (shard t) (other t ne) rs is))
        (same_or_not t s)

    shard_knew : (t : ℕ) (m : ShardState) → ShardKnows next t m → KnewAs t m
    shard_knew t m k = ⊎_elim
        (λ (same : t ≡ s).
        let it = on.up_with k.durable k.staged (ap (λ (j : ℕ). next.at (shard j)) (sym same) ∙ k.is_up) in
        let is : shard_state k.durable ≡ m = sym (k.replayed ∙ ap (λ (l : List Record). shard_state (k.durable ++ l)) it.none_staged ∙ ap shard_state (append-nil k.durable)) in
        subst (λ (j : ℕ). KnewAs j m) (sym same) (subst (KnewAs s) is it.knew))
        (λ ne. inl (m, record { durable = k.durable; staged = k.staged; is_up = sym (on.others.others (shard t) (other t ne)) ∙ k.is_up; replayed = k.replayed }, refl, refl))
        (same_or_not t s)

    -- what holds of whatever a stop leaves of a shard still holds, if no lower epoch and no less learned can change it
    kept_of : (P : List Record → Type 0) → ((old rs : List Record) → (shard_state old).epoch ≤ (shard_state rs).epoch → (shard_state old).learned ≤ (shard_state rs).learned → P old → P rs)
        → (t : ℕ) → ((rs : List Record) → left (shard t) rs → P rs) → (rs : List Record) → after (shard t) rs → P rs
    kept_of P further t held rs is = ⊎_elim
        (λ (same : t ≡ s).
        let low = on.no_less rs (subst (λ (k : ℕ). after (shard k) rs) same is) in
        further low.0 rs low.2 low.3 (held low.0 (subst (λ (k : ℕ). left (shard k) low.0) (sym same) low.1)))
        (λ ne. held rs ((on.same (shard t) rs (other t ne)).0 is))
        (same_or_not t s)

    goes_on : GoesOn store shards left after now next
    goes_on = record {
      stands = on.stands;
      rests = rests_in_place store shards left now.nodes (at_shards (leaves after next)) at_shard now.machine.log now.machine.kept now.machine.horizon (leaves after next coordinator) on.stands.rests
          (λ rs is. still_means store shards left now.nodes rs (there coordinator not_here rs is));
      whole = λ c is. means_in_place store shards left now.nodes (at_shards (leaves after next)) at_shard now.machine.log now.machine.horizon c;
      in_doubt = λ t rs is. let place = at_shard t rs is in (place.0, place.1, place.2.in_doubt);
      listed = λ t rs lt is. let place = at_shard t rs is in place.2.means now.machine.log now.machine.horizon now.machine.horizon (on.stands.listed t place.0 lt place.1);
      shard_knew = shard_knew;
      coordinator_was = inl (on.others.others coordinator not_here);
      given_out = λ id held rs is. held rs ((on.same coordinator rs not_here).0 is);
      open_writes = on.others.open_writes nor_here;
      given = on.others.given nor_here;
      epochs = λ t epoch. kept_of (λ (l : List Record). epoch ≤ (shard_state l).epoch) (λ old rs higher more le. omega (arith, higher, le)) t;
      settled = λ t place. kept_of (λ (l : List Record). place ≤ (shard_state l).learned) (λ old rs higher more le. omega (arith, more, le)) t;
    }

    -- a node that is up is one of the others, or the shard
    node_was : (n : NodeName) (d g : List Record) → next.at n ≡ up d g → ((n ≢ shard s) × (now.nodes.at n ≡ up d g)) ⊎ ((n ≡ shard s) × IsUpWith d g)
    node_was coordinator d g is = inl (not_here, sym (on.others.others coordinator not_here) ∙ is)
    node_was (shard t) d g is = ⊎_elim
        (λ (same : t ≡ s). inr (ap shard same, on.up_with d g (ap (λ (j : ℕ). next.at (shard j)) (sym same) ∙ is)))
        (λ ne. inl (other t ne, sym (on.others.others (shard t) (other t ne)) ∙ is))
        (same_or_not t s)

    nodes_kept : NodesStand store shards after next
    nodes_kept = record {
      durable = λ n d g rs is. ⊎_elim
          (λ was. (λ x. (on.stands.nodes.durable n d g rs was.1).0 ((on.same n rs was.0).0 x), λ x. (on.same n rs was.0).1 ((on.stands.nodes.durable n d g rs was.1).1 x)))
          (λ it. (λ x. (it.1.here rs).0 (subst (λ (m : NodeName). after m rs) it.0 x), λ x. subst (λ (m : NodeName). after m rs) (sym it.0) ((it.1.here rs).1 x)))
          (node_was n d g is);
      no_opening = λ n d g a b c e is has. ⊎_elim
          (λ was. on.stands.nodes.no_opening n d g a b c e was.1 has)
          (λ it. let empty : Contains [] (Epoch a b c e) = subst (λ (l : List Record). Contains l (Epoch a b c e)) it.1.none_staged has in absurd (omega (arith, empty.1)))
          (node_was n d g is);
      coordinator_opened = λ kept m k. on.stands.nodes.coordinator_opened kept m (record { durable = k.durable; staged = k.staged; is_up = sym (on.others.others coordinator not_here) ∙ k.is_up; durable_state = k.durable_state; replayed = k.replayed });
      shard_opened = λ t d g is. ⊎_elim (λ was. on.stands.nodes.shard_opened t d g was.1) (λ it. it.1.opened) (node_was (shard t) d g is);
      sound = not_damaged;
    }
      where
        not_damaged : (n : NodeName) (e : Refusal) → next.at n ≡ refused e → IsOfRefusedOpening e
        not_damaged coordinator e is = on.stands.nodes.sound coordinator e (sym (on.others.others coordinator not_here) ∙ is)
        not_damaged (shard t) e is = ⊎_elim
            (λ (same : t ≡ s). on.sound e (ap (λ (j : ℕ). next.at (shard j)) (sym same) ∙ is))
            (λ ne. on.stands.nodes.sound (shard t) e (sym (on.others.others (shard t) (other t ne)) ∙ is))
            (same_or_not t s)

    pub changed_stands : Stands store shards after (with_nodes now next)
    changed_stands = stands_on store shards left after now next goes_on nodes_kept
