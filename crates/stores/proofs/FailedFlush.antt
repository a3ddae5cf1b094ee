-- The coordinator of a store that stands fails in a flush.
use Rattle.std.proofs.Common.{◌≡◌, inl, inr, ⊎_elim, ◌↔◌, ℕ, ◌≤◌, List, ◌++◌, Contains, refl, sym, ◌∙◌, ap, subst, append-nil}
use Rattle.stores.proofs.Words.{CoordinatorKnows, CoordinatorState, Epoch, FailsFlush, HeadsStand, IsGivenOut, IsOfRefusedOpening, Machine, Moment, NodeName, NodeState, Nodes, NodesStand, Record, Refusal, StandFor, Stands, WriteId, at_shards, coordinator, down, leaves, refused, shard, staged_of, up}
use Rattle.records.specs.Coordinators.{coordinator_state}
use Rattle.stores.specs.FlushLaws.{FailedFlushesStand}
use Rattle.stores.proofs.DecisionNodes.{staged_epoch}
use Rattle.stores.proofs.LessLeftFlows.{GoesOn, stands_on}
use Rattle.stores.proofs.Places.{IsInPlace, MeansAsBefore, forgotten_means, means_in_place, rests_in_place, still_in_place, still_means}

-- what is asked of the coordinator that is known of it alone
pub record CoordinatorStands (store shards : ℕ) (after : NodeName → List Record → Type 0) (next : Nodes) : Type 0 where
  pub durable : (d g rs : List Record) → next.at coordinator ≡ up d g → after coordinator rs ↔ (rs ≡ d)
  pub no_opening : (d g : List Record) (a b c e : ℕ) → next.at coordinator ≡ up d g → Contains g (Epoch a b c e) → ⊥
  pub opened : (kept memory : CoordinatorState) → CoordinatorKnows next kept memory → 1 ≤ kept.epoch
  pub sound : (e : Refusal) → next.at coordinator ≡ refused e → IsOfRefusedOpening e

module _ (store shards : ℕ) (left after : NodeName → List Record → Type 0) (now : Moment) (next : Nodes) (stands : Stands store shards left now)
    (unchanged : (t : ℕ) → next.at (shard t) ≡ now.nodes.at (shard t)) (same : (t : ℕ) (rs : List Record) → after (shard t) rs ↔ left (shard t) rs) where
  -- the shards stand as they did
  pub nodes_stand : CoordinatorStands store shards after next → NodesStand store shards after next
  nodes_stand here = record {
    durable = λ k d g rs is. durable_at k d g rs is;
    no_opening = λ k d g a b c e is has. none_at k d g a b c e is has;
    coordinator_opened = here.opened;
    shard_opened = λ t d g is. stands.nodes.shard_opened t d g (sym (unchanged t) ∙ is);
    sound = not_damaged;
  }
    where
      durable_at : (k : NodeName) (d g rs : List Record) → next.at k ≡ up d g → (after k rs → rs ≡ d) × (rs ≡ d → after k rs)
      durable_at coordinator d g rs is = here.durable d g rs is
      durable_at (shard t) d g rs is =
          let was : now.nodes.at (shard t) ≡ up d g = sym (unchanged t) ∙ is in
          (λ x. (stands.nodes.durable (shard t) d g rs was).0 ((same t rs).0 x), λ x. (same t rs).1 ((stands.nodes.durable (shard t) d g rs was).1 x))

      none_at : (k : NodeName) (d g : List Record) (a b c e : ℕ) → next.at k ≡ up d g → Contains g (Epoch a b c e) → ⊥
      none_at coordinator d g a b c e is has = here.no_opening d g a b c e is has
      none_at (shard t) d g a b c e is has = stands.nodes.no_opening (shard t) d g a b c e (sym (unchanged t) ∙ is) has

      not_damaged : (k : NodeName) (e : Refusal) → next.at k ≡ refused e → IsOfRefusedOpening e
      not_damaged coordinator e is = here.sound e is
      not_damaged (shard t) e is = stands.nodes.sound (shard t) e (sym (unchanged t) ∙ is)

  -- nothing is known of a coordinator that is not up
  pub nothing_known : (m : Machine) → ((d g : List Record) → next.at coordinator ≡ up d g → ⊥) → ((e : Refusal) → next.at coordinator ≡ refused e → IsOfRefusedOpening e)
      → CoordinatorStands store shards after next × HeadsStand store shards after next m
  nothing_known m not_up sound = (
    record {
      durable = λ d g rs is. absurd (not_up d g is);
      no_opening = λ d g a b c e is has. not_up d g is;
      opened = λ kept memory k. absurd (not_up k.durable k.staged k.is_up);
      sound = sound;
    },
    record {
      log = λ kept memory k. absurd (not_up k.durable k.staged k.is_up);
      kept = λ kept memory k. absurd (not_up k.durable k.staged k.is_up);
      horizon = λ kept memory k. absurd (not_up k.durable k.staged k.is_up);
      whole = λ d g is. absurd (not_up d g is);
    },
  )

module _ (store shards : ℕ) (left after : NodeName → List Record → Type 0) (now : Moment) (next : Nodes) (stands : Stands store shards left now) (fails : FailsFlush left after now.nodes next) where
  same_epoch : (coordinator_state (fails.durable ++ fails.staged)).epoch ≡ (coordinator_state fails.durable).epoch
  same_epoch = staged_epoch fails.durable fails.staged (λ a b c d has. stands.nodes.no_opening coordinator fails.durable fails.staged a b c d fails.was has)

  durable_left : left coordinator fails.durable
  durable_left = (stands.nodes.durable coordinator fails.durable fails.staged fails.durable fails.was).1 refl

  not_up : (d g : List Record) → next.at coordinator ≡ up d g → ⊥
  not_up d g is = let both : down ≡ up d g = sym fails.now ∙ is in cc

  given_out : (id : WriteId) → IsGivenOut (left coordinator) id → IsGivenOut (after coordinator) id
  given_out id old found is =
      let low : id.epoch ≤ (coordinator_state fails.durable).epoch = old fails.durable durable_left in
      ⊎_elim
      (λ plain. subst (λ (l : List Record). id.epoch ≤ (coordinator_state l).epoch) (sym plain) low)
      (λ (for_it : StandFor coordinator (fails.durable ++ fails.staged) found). subst (λ (k : ℕ). id.epoch ≤ k) (sym (for_it.0.epoch ∙ same_epoch)) low)
      (fails.here found is)

  -- what a stop leaves of the coordinator means the same as something that it could leave
  means_as_before : (found : List Record) → leaves after next coordinator found → MeansAsBefore store shards left now.nodes found
  means_as_before found is =
      let same : found ≡ is.0 = ⊎_elim (λ plain. plain) (λ more. more ∙ ap (λ (l : List Record). is.0 ++ l) (ap staged_of fails.now) ∙ append-nil is.0) is.2 in
      subst (MeansAsBefore store shards left now.nodes) (sym same) (⊎_elim
      (λ plain. still_means store shards left now.nodes is.0 (fails.durable, durable_left, inl plain))
      (λ (for_it : StandFor coordinator (fails.durable ++ fails.staged) is.0). (
        fails.durable ++ fails.staged,
        (fails.durable, durable_left, inr (ap (λ (n : NodeState). fails.durable ++ staged_of n) (sym fails.was))),
        λ log h m. forgotten_means store shards log h (fails.durable ++ fails.staged) is.0 (at_shards (leaves left now.nodes)) for_it m,
      ))
      (fails.here is.0 is.1))

  shard_less : (t : ℕ) (rs : List Record) → leaves after next (shard t) rs → leaves left now.nodes (shard t) rs
  shard_less t rs is = (is.0, (fails.same t is.0).0 is.1, ⊎_elim (λ plain. inl plain) (λ more. inr (more ∙ ap (λ (x : NodeState). is.0 ++ staged_of x) (fails.unchanged t))) is.2)

  shard_still : (t : ℕ) (rs : List Record) → leaves after next (shard t) rs → IsInPlace store shards left now.nodes t rs
  shard_still t rs is = still_in_place store shards left now.nodes t rs (shard_less t rs is)

  on : GoesOn store shards left after now next
  on = record {
    stands = stands;
    rests = rests_in_place store shards left now.nodes (at_shards (leaves after next)) shard_still now.machine.log now.machine.kept now.machine.horizon (leaves after next coordinator) stands.rests means_as_before;
    whole = λ c is. means_in_place store shards left now.nodes (at_shards (leaves after next)) shard_still now.machine.log now.machine.horizon c;
    in_doubt = λ t found is. (found, shard_less t found is, refl);
    listed = λ t found lt is. stands.listed t found lt (shard_less t found is);
    shard_knew = λ t m k. inl (m, record { durable = k.durable; staged = k.staged; is_up = sym (fails.unchanged t) ∙ k.is_up; replayed = k.replayed }, refl, refl);
    coordinator_was = inr fails.now;
    given_out = given_out;
    open_writes = fails.open_writes;
    given = fails.given;
    epochs = λ t epoch old found is. old found ((fails.same t found).0 is);
    settled = λ t place old found is. old found ((fails.same t found).0 is);
  }

pub failed_flushes_stand : (store shards : ℕ) (left after : NodeName → List Record → Type 0) → FailedFlushesStand store shards left after
failed_flushes_stand store shards left after now next stands fails =
    let none = nothing_known store shards left after now next stands fails.unchanged fails.same now.machine (not_up store shards left after now next stands fails) (λ e is. let both : down ≡ refused e = sym fails.now ∙ is in absurd cc) in
    stands_on store shards left after now next (on store shards left after now next stands fails) (nodes_stand store shards left after now next stands fails.unchanged fails.same none.0)
