-- The coordinator of a store that stands is flushed: the whole log is kept, and the horizon is the one that it knows.
use Rattle.std.proofs.Common.{◌≡◌, inl, ⊎_elim, ℕ, ◌≤◌, List, [], ◌++◌, length, Contains, refl, sym, ◌∙◌, ap, subst, arith, append-nil, false}
use Rattle.stores.proofs.Words.{CoordinatorKnows, CoordinatorState, Epoch, FlushesCoordinator, IsCoordinatorImage, IsOfRefusedOpening, Means, Moment, NodeName, NodeState, Nodes, NodesStand, Record, Refusal, Rests, ShardMeans, Stands, all_kept, at_shards, coordinator, coordinator_node, down, end_of, horizon_rises, leaves, less_rests, raised_means, refused, shard, shard_state, staged_of, up}
use Rattle.records.specs.Coordinators.{coordinator_state}
use Rattle.stores.specs.FlushLaws.{CoordinatorFlushesStand}
use Rattle.laws.proofs.CoordinatorSteps.{flushes_rest}
use Rattle.stores.proofs.DecisionNodes.{staged_epoch}
use Rattle.stores.proofs.Frames.{shard_less}
use Rattle.stores.proofs.SameWrites.{SameWrites, same_in_doubt, same_shard, still_stands}
use Rattle.stores.proofs.Places.{forgotten_means}
use Rattle.stores.proofs.ShardStages.{durable_in}

module _ (store shards : ℕ) (left after : NodeName → List Record → Type 0) (now : Moment) (next : Nodes) (stands : Stands store shards left now) (flush : FlushesCoordinator left after now.nodes next)
    (image : IsCoordinatorImage (coordinator_node store shards) (flush.durable ++ flush.staged)) where
  abbrev later : Moment
  later = record now { nodes = next; machine = all_kept now.machine (flush.durable ++ flush.staged) }

  whole : Means store shards now.machine.log now.machine.horizon (flush.durable ++ flush.staged) (at_shards (leaves left now.nodes))
  whole = stands.heads.whole flush.durable flush.staged flush.was

  -- the records that replace these mean the whole log too
  fresh_means : Means store shards now.machine.log now.machine.horizon flush.records (at_shards (leaves left now.nodes))
  fresh_means = forgotten_means store shards now.machine.log now.machine.horizon (flush.durable ++ flush.staged) flush.records (at_shards (leaves left now.nodes)) flush.stand_for whole

  low : now.machine.horizon ≤ (coordinator_state (flush.durable ++ flush.staged)).horizon
  low = whole.decided.above

  high : (coordinator_state (flush.durable ++ flush.staged)).horizon ≤ length now.machine.log
  high = whole.decided.within

  knew : CoordinatorKnows now.nodes (coordinator_state flush.durable) (coordinator_state (flush.durable ++ flush.staged))
  knew = record { durable = flush.durable; staged = flush.staged; is_up = flush.was; durable_state = refl; replayed = refl }

  knows : (kept m : CoordinatorState) → CoordinatorKnows next kept m → (kept ≡ coordinator_state flush.records) × (m ≡ coordinator_state flush.records)
  knows kept m k =
      let both : up k.durable k.staged ≡ up flush.records [] = sym k.is_up ∙ flush.now in (
        k.durable_state ∙ ap coordinator_state (ap durable_in both),
        k.replayed ∙ ap (λ (l : List Record). coordinator_state (l ++ k.staged)) (ap durable_in both) ∙ ap (λ (l : List Record). coordinator_state (flush.records ++ l)) (ap staged_of both) ∙ ap coordinator_state (append-nil flush.records),
      )

  same_epoch : (coordinator_state flush.records).epoch ≡ (coordinator_state flush.durable).epoch
  same_epoch = flush.stand_for.0.epoch ∙ staged_epoch flush.durable flush.staged (λ a b c d has. stands.nodes.no_opening coordinator flush.durable flush.staged a b c d flush.was has)

  shards_less : (t : ℕ) (found : List Record) → leaves after next (shard t) found → leaves left now.nodes (shard t) found
  shards_less = shard_less shards left after now later false flush.shards (λ t rs. (flush.same t rs).0)

  only : (found : List Record) → leaves after next coordinator found → found ≡ flush.records
  only found is =
      let same : found ≡ is.0 = ⊎_elim (λ plain. plain) (λ more. more ∙ ap (λ (l : List Record). is.0 ++ l) (ap staged_of flush.now) ∙ append-nil is.0) is.2 in
      same ∙ (flush.here is.0).0 is.1

  same_horizon : (coordinator_state flush.records).horizon ≡ later.machine.horizon
  same_horizon = flush.stand_for.0.horizon

  rests_kept : Rests store shards now.machine.log (length now.machine.log) later.machine.horizon (leaves after next coordinator) (at_shards (leaves after next))
  rests_kept =
      let stops = leaves after next coordinator in
      let kept = flushes_rest (leaves left now.nodes coordinator) stops (at_shards (leaves left now.nodes)) store shards now.machine.log now.machine.kept now.machine.horizon flush.records stands.rests fresh_means only in
      let raised = horizon_rises stops stops (at_shards (leaves left now.nodes)) (at_shards (leaves left now.nodes)) store shards now.machine.log (length now.machine.log) now.machine.horizon later.machine.horizon low high
      (λ found is. let e = ap (λ (l : List Record). (coordinator_state l).horizon) (only found is) ∙ same_horizon in omega (arith, e)) kept in
      (less_rests stops stops (at_shards (leaves left now.nodes)) (at_shards (leaves after next)) store shards now.machine.log (length now.machine.log) later.machine.horizon (λ found is. is) shards_less).0 raised

  whole_kept : Means store shards now.machine.log later.machine.horizon flush.records (at_shards (leaves after next))
  whole_kept =
      let stops = leaves after next coordinator in
      let raised = raised_means stops stops (at_shards (leaves left now.nodes)) (at_shards (leaves left now.nodes)) store shards now.machine.log now.machine.horizon later.machine.horizon flush.records low (let e = same_horizon in omega (arith, e)) fresh_means in
      (less_rests stops stops (at_shards (leaves left now.nodes)) (at_shards (leaves after next)) store shards now.machine.log (length now.machine.log) later.machine.horizon (λ found is. is) shards_less).1 flush.records raised

  on : SameWrites store shards left after now next later.machine.kept later.machine.horizon
  on = record {
    stands = stands;
    kept_on = stands.rests.within;
    horizon_on = low;
    open_writes = flush.open_writes;
    given = flush.given;
    coordinator_knew = λ kept m k. (coordinator_state flush.durable, coordinator_state (flush.durable ++ flush.staged), knew, sym (ap (λ (c : CoordinatorState). c.epoch) (knows kept m k).1 ∙ flush.stand_for.0.epoch));
    in_doubt = same_in_doubt store shards left after now next later.machine.kept later.machine.horizon flush.shards (λ t rs. (flush.same t rs).0);
    shard_knew = same_shard store shards left after now next later.machine.kept later.machine.horizon flush.shards (λ t rs. (flush.same t rs).0);
    given_out = λ id g found is.
        let first = g flush.durable ((stands.nodes.durable coordinator flush.durable flush.staged flush.durable flush.was).1 refl) in
        subst (λ (l : List Record). id.epoch ≤ (coordinator_state l).epoch) (sym ((flush.here found).0 is)) (subst (λ (n : ℕ). id.epoch ≤ n) (sym same_epoch) first);
    epochs = λ t epoch is found here. is found ((flush.same t found).0 here);
    settled = λ t p is found here. is found ((flush.same t found).0 here);
    taken = λ x is. ⊎_elim
        (λ old. inl (omega (arith, old, low)))
        (λ rest. ⊎_elim
        (λ found.
        let both : up found.durable found.staged ≡ up flush.durable flush.staged = sym found.is_up ∙ flush.was in
        inl (subst (λ (l : NodeState). x ≤ (coordinator_state (durable_in l ++ staged_of l)).horizon) both found.enough))
        (λ gone. let both : up flush.durable flush.staged ≡ down = sym flush.was ∙ gone in absurd cc)
        rest)
        is;
  }

  nodes_kept : NodesStand store shards after next
  nodes_kept = record {
    durable = λ n d g found is. durable_at n d g found is;
    no_opening = λ n d g a b c e is has. none_at n d g a b c e is has;
    coordinator_opened = λ kept m k.
        let old = stands.nodes.coordinator_opened (coordinator_state flush.durable) (coordinator_state (flush.durable ++ flush.staged)) knew in
        subst (λ (c : CoordinatorState). 1 ≤ c.epoch) (sym (knows kept m k).0) (subst (λ (n : ℕ). 1 ≤ n) (sym same_epoch) old);
    shard_opened = λ t d g is. stands.nodes.shard_opened t d g (sym (flush.shards t) ∙ is);
    sound = not_damaged;
  }
    where
      durable_at : (n : NodeName) (d g found : List Record) → next.at n ≡ up d g → (after n found → found ≡ d) × (found ≡ d → after n found)
      durable_at coordinator d g found is =
          let both : up d g ≡ up flush.records [] = sym is ∙ flush.now in
          (λ x. (flush.here found).0 x ∙ sym (ap durable_in both), λ x. (flush.here found).1 (x ∙ ap durable_in both))
      durable_at (shard t) d g found is =
          let was : now.nodes.at (shard t) ≡ up d g = sym (flush.shards t) ∙ is in
          (λ x. (stands.nodes.durable (shard t) d g found was).0 ((flush.same t found).0 x), λ x. (flush.same t found).1 ((stands.nodes.durable (shard t) d g found was).1 x))

      none_at : (n : NodeName) (d g : List Record) (a b c e : ℕ) → next.at n ≡ up d g → Contains g (Epoch a b c e) → ⊥
      none_at coordinator d g a b c e is has =
          let both : up d g ≡ up flush.records [] = sym is ∙ flush.now in
          let empty : Contains [] (Epoch a b c e) = subst (λ (l : List Record). Contains l (Epoch a b c e)) (ap staged_of both) has in
          omega (arith, empty.1)
      none_at (shard t) d g a b c e is has = stands.nodes.no_opening (shard t) d g a b c e (sym (flush.shards t) ∙ is) has

      not_damaged : (n : NodeName) (e : Refusal) → next.at n ≡ refused e → IsOfRefusedOpening e
      not_damaged coordinator e is = let both : refused e ≡ up flush.records [] = sym is ∙ flush.now in absurd cc
      not_damaged (shard t) e is = stands.nodes.sound (shard t) e (sym (flush.shards t) ∙ is)

  flushed : Stands store shards after later
  flushed = still_stands store shards left after now next later.machine.kept later.machine.horizon on rests_kept nodes_kept
      (record {
        log = λ kept m k. ap end_of (knows kept m k).1 ∙ flush.stand_for.0.end ∙ stands.heads.log _ _ knew;
        kept = λ kept m k. ap end_of (knows kept m k).0 ∙ flush.stand_for.0.end ∙ stands.heads.log _ _ knew;
        horizon = λ kept m k. ap (λ (c : CoordinatorState). c.horizon) (knows kept m k).0 ∙ same_horizon;
        whole = λ d g is.
            let both : up flush.records [] ≡ up d g = sym flush.now ∙ is in
            let same : flush.records ≡ d ++ g = sym (append-nil flush.records) ∙ ap (λ (l : List Record). l ++ []) (ap durable_in both) ∙ ap (λ (l : List Record). d ++ l) (ap staged_of both) in
            subst (λ (l : List Record). Means store shards now.machine.log later.machine.horizon l (at_shards (leaves after next))) same whole_kept;
      })
      (λ t found lt is. subst (λ (n : ℕ). ShardMeans shards t now.machine.log n later.machine.horizon (shard_state found)) same_horizon (whole_kept.each_shard t found lt is).means)

pub coordinator_flushes_stand : (store shards : ℕ) (left after : NodeName → List Record → Type 0) → CoordinatorFlushesStand store shards left after
coordinator_flushes_stand store shards left after now next stands flush image = flushed store shards left after now next stands flush image
