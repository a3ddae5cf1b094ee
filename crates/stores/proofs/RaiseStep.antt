-- The coordinator of a store that stands stages a horizon.
use Rattle.std.proofs.Common.{◌≡◌, ℕ, ◌≤◌, List, [], ◌∷◌, ◌++◌, refl, sym, ◌∙◌, ap, subst, append_assoc, arith, false}
use Rattle.stores.proofs.Words.{CoordinatorKnows, CoordinatorState, Horizon, IsCoordinatorImage, IsLearnedInAll, MayRaise, Means, Moment, NodeName, Nodes, Record, Rests, StagesHorizon, Stands, at_shards, coordinator, coordinator_last, coordinator_node, coordinator_push, coordinator_state, end_of, leaves, less_rests, shard, with_nodes}
use Rattle.records.specs.Coordinators.{coordinator_step}
use Rattle.stores.specs.RaisingLaws.{RaisesStand}
use Rattle.laws.proofs.CoordinatorSteps.{horizons_rest}
use Rattle.stores.proofs.CoordinatorStages as stages
use Rattle.stores.proofs.Frames.{shard_less}
use Rattle.stores.proofs.SameWrites.{SameWrites, same_in_doubt, same_shard, still_stands}

module _ (store shards : ℕ) (left : NodeName → List Record → Type 0) (now : Moment) (next : Nodes) (place : ℕ) (stands : Stands store shards left now) (step : StagesHorizon place now.nodes next)
    (image : IsCoordinatorImage (coordinator_node store shards) ((step.durable ++ step.staged) ++ Horizon place ∷ [])) (learned : IsLearnedInAll shards (at_shards (leaves left now.nodes)) place) where
  after : coordinator_state ((step.durable ++ step.staged) ++ Horizon place ∷ []) ≡ coordinator_step (coordinator_state (step.durable ++ step.staged)) (Horizon place)
  after = coordinator_push (step.durable ++ step.staged) (Horizon place)

  -- the horizon that the coordinator knows has risen
  horizon_now : (coordinator_state (step.durable ++ step.staged)).horizon ≤ (coordinator_state (step.durable ++ (step.staged ++ Horizon place ∷ []))).horizon
  unfolding coordinator_step
  horizon_now =
      let may : MayRaise (coordinator_state (step.durable ++ step.staged)) place = coordinator_last (coordinator_node store shards) (step.durable ++ step.staged) (Horizon place) image in
      let is : (coordinator_state (step.durable ++ (step.staged ++ Horizon place ∷ []))).horizon ≡ place =
      ap (λ (c : CoordinatorState). c.horizon) (ap coordinator_state (sym (append_assoc step.durable step.staged (Horizon place ∷ []))) ∙ after) in
      omega (arith, is, may.on)

  knew : CoordinatorKnows now.nodes (coordinator_state step.durable) (coordinator_state (step.durable ++ step.staged))
  knew = record { durable = step.durable; staged = step.staged; is_up = step.was; durable_state = refl; replayed = refl }

  knows : (kept m : CoordinatorState) → CoordinatorKnows next kept m → (kept ≡ coordinator_state step.durable) × (m ≡ coordinator_step (coordinator_state (step.durable ++ step.staged)) (Horizon place))
  knows = stages.knows_now store shards left now next stands (Horizon place) step.durable step.staged step.was step.now step.shards

  same_epoch : (kept m : CoordinatorState) → CoordinatorKnows next kept m → m.epoch ≡ (coordinator_state (step.durable ++ step.staged)).epoch
  unfolding coordinator_step
  same_epoch kept m k = ap (λ (c : CoordinatorState). c.epoch) (knows kept m k).1

  same_end : (kept m : CoordinatorState) → CoordinatorKnows next kept m → end_of m ≡ end_of (coordinator_state (step.durable ++ step.staged))
  unfolding coordinator_step
  same_end kept m k = ap end_of (knows kept m k).1

  shards_less : (t : ℕ) (found : List Record) → leaves left next (shard t) found → leaves left now.nodes (shard t) found
  shards_less = shard_less shards left left now (with_nodes now next) false step.shards (λ t rs is. is)

  both_rest : Rests store shards now.machine.log now.machine.kept now.machine.horizon (leaves left next coordinator) (at_shards (leaves left now.nodes))
      × Means store shards now.machine.log now.machine.horizon ((step.durable ++ step.staged) ++ Horizon place ∷ []) (at_shards (leaves left now.nodes))
  both_rest = horizons_rest (leaves left now.nodes coordinator) (leaves left next coordinator) (at_shards (leaves left now.nodes)) store shards now.machine.log now.machine.kept now.machine.horizon (step.durable ++ step.staged) place
      (record { rests = stands.rests; here = stages.here store shards left now next stands (Horizon place) step.durable step.staged step.was step.now step.shards; image = image; adds = stages.coordinator_left store shards left now next stands (Horizon place) step.durable step.staged step.was step.now step.shards })
      (stands.heads.whole step.durable step.staged step.was) learned

  both_less : (Rests store shards now.machine.log now.machine.kept now.machine.horizon (leaves left next coordinator) (at_shards (leaves left now.nodes)) → Rests store shards now.machine.log now.machine.kept now.machine.horizon (leaves left next coordinator) (at_shards (leaves left next)))
      × ((c : List Record) → Means store shards now.machine.log now.machine.horizon c (at_shards (leaves left now.nodes)) → Means store shards now.machine.log now.machine.horizon c (at_shards (leaves left next)))
  both_less = less_rests (leaves left next coordinator) (leaves left next coordinator) (at_shards (leaves left now.nodes)) (at_shards (leaves left next)) store shards now.machine.log now.machine.kept now.machine.horizon (λ found is. is) shards_less

  on : SameWrites store shards left left now next now.machine.kept now.machine.horizon
  on = record {
    stands = stands;
    kept_on = omega arith;
    horizon_on = omega arith;
    open_writes = step.open_writes;
    given = step.given;
    coordinator_knew = λ kept m k. (coordinator_state step.durable, coordinator_state (step.durable ++ step.staged), knew, sym (same_epoch kept m k));
    in_doubt = same_in_doubt store shards left left now next now.machine.kept now.machine.horizon step.shards (λ t rs is. is);
    shard_knew = same_shard store shards left left now next now.machine.kept now.machine.horizon step.shards (λ t rs is. is);
    given_out = λ id g. g;
    epochs = λ t epoch is. is;
    settled = λ t p is. is;
    taken = stages.still_taken store shards left now next stands (Horizon place) step.durable step.staged step.was step.now step.shards (with_nodes now next) refl (omega arith) horizon_now;
  }

  raised : Stands store shards left (with_nodes now next)
  raised = still_stands store shards left left now next now.machine.kept now.machine.horizon on (both_less.0 both_rest.0) (stages.nodes_kept store shards left now next stands (Horizon place) step.durable step.staged step.was step.now step.shards (λ a b c d is. absurd cc))
      (record {
        log = λ kept m k. same_end kept m k ∙ stands.heads.log _ _ knew;
        kept = λ kept m k. ap end_of (knows kept m k).0 ∙ stands.heads.kept _ _ knew;
        horizon = λ kept m k. ap (λ (c : CoordinatorState). c.horizon) (knows kept m k).0 ∙ stands.heads.horizon _ _ knew;
        whole = λ d g is. subst (λ (l : List Record). Means store shards now.machine.log now.machine.horizon l (at_shards (leaves left next))) (stages.all_of store shards left now next stands (Horizon place) step.durable step.staged step.was step.now step.shards d g is) (both_less.1 _ both_rest.1);
      })
      (λ t found lt is. stands.listed t found lt (shards_less t found is))

pub raises_stand : (store shards : ℕ) (left : NodeName → List Record → Type 0) → RaisesStand store shards left
raises_stand store shards left now next place stands step image learned = raised store shards left now next place stands step image learned
