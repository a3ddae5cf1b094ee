-- A store whose nodes are unmade, or were opened once.
use Rattle.std.proofs.Common.{◌≡◌, ◌⊎◌, inl, inr, ℕ, List, [], ◌∷◌, refl, sym, ap, subst, arith}
use Rattle.tuples.specs.Log.{IsLegal}
use Rattle.tuples.specs.Versions.{collected, versions}
use Rattle.records.specs.Identity.{coordinator_number}
use Rattle.laws.proofs.Words.{AreGivenInDoubt, CoordinatorMeans, CoordinatorState, Epoch, IsCoordinatorImage, IsLog, IsShardImage, Record, ShardMeans, alike_refl, coordinator_node, shard_node}
use Rattle.records.specs.Coordinators.{coordinator_state, coordinator_step}
use Rattle.records.specs.Replays.{shard_state, shard_step}
use Rattle.replay.proofs.States.{image_empty, image_push}
use Rattle.laws.specs.StopLaws.{EmptyRests}
use Rattle.laws.proofs.CoordinatorStates.{coordinator_empty, coordinator_image_push}

empty_log : IsLog []
unfolding IsLegal
empty_log = record { whole = λ j w is. absurd cc; new = λ i j v w is_v is_w same. absurd cc; legal = λ i w is. absurd cc }

module _ (store shards : ℕ) where
  coordinator_image : (found : List Record) → (found ≡ []) ⊎ (found ≡ Epoch 1 store shards coordinator_number ∷ []) → IsCoordinatorImage (coordinator_node store shards) found
  unfolding coordinator_state
  coordinator_image found (inl is) = subst (IsCoordinatorImage (coordinator_node store shards)) (sym is) (coordinator_empty (coordinator_node store shards))
  coordinator_image found (inr is) = subst (IsCoordinatorImage (coordinator_node store shards)) (sym is) (coordinator_image_push (coordinator_node store shards) [] (Epoch 1 store shards coordinator_number) (coordinator_empty (coordinator_node store shards))
      (record { next = refl; greatest = omega arith; same_store = refl; same_shards = refl; same_node = refl; coordinator = refl }))

  shard_image : (s : ℕ) (found : List Record) → (found ≡ []) ⊎ (found ≡ Epoch 1 store shards s ∷ []) → IsShardImage (shard_node store shards s) found
  unfolding shard_state
  shard_image s found (inl is) = subst (IsShardImage (shard_node store shards s)) (sym is) (image_empty (shard_node store shards s))
  shard_image s found (inr is) = subst (IsShardImage (shard_node store shards s)) (sym is) (image_push (shard_node store shards s) [] (Epoch 1 store shards s) (image_empty (shard_node store shards s))
      (record { next = refl; greatest = omega arith; same_store = refl; same_shards = refl; same_node = refl }))

  -- it knows nothing but its epoch
  coordinator_knows : (found : List Record) → (found ≡ []) ⊎ (found ≡ Epoch 1 store shards coordinator_number ∷ []) → (epoch : ℕ) × (coordinator_state found ≡ record { base = 0; log = []; horizon = 0; epoch = epoch })
  unfolding coordinator_state coordinator_step
  coordinator_knows found (inl is) = (0, ap coordinator_state is)
  coordinator_knows found (inr is) = (1, ap coordinator_state is)

  shard_knows : (s : ℕ) (found : List Record) → (found ≡ []) ⊎ (found ≡ Epoch 1 store shards s ∷ []) → (epoch : ℕ) × (shard_state found ≡ record { in_doubt = []; learned = 0; horizon = 0; rows = []; epoch = epoch })
  unfolding shard_state shard_step
  shard_knows s found (inl is) = (0, ap shard_state is)
  shard_knows s found (inr is) = (1, ap shard_state is)

  decided : (epoch : ℕ) → CoordinatorMeans [] 0 (record { base = 0; log = []; horizon = 0; epoch = epoch })
  decided epoch = record { decisions = refl; base = omega arith; above = omega arith; within = omega arith; given = λ j w is. absurd cc }

  means : (s epoch : ℕ) → ShardMeans shards s [] 0 0 (record { in_doubt = []; learned = 0; horizon = 0; rows = []; epoch = epoch })
  unfolding versions collected
  means s epoch = record { learned = omega arith; horizon = omega arith; rows = alike_refl []; settled = omega arith; in_doubt = record { above = λ j w is le. absurd cc; below = λ j w is lt. absurd cc } }

  none_given : (e epoch : ℕ) → AreGivenInDoubt e (record { in_doubt = []; learned = 0; horizon = 0; rows = []; epoch = epoch })
  none_given e epoch id w is = absurd cc

pub empty_rests : (old new : List Record → Type 0) (shard shard_after : ℕ → List Record → Type 0) → EmptyRests old new shard shard_after
empty_rests old new shard shard_after store shards coordinators all_shards = record {
  is_log = empty_log;
  horizon = omega arith;
  within = omega arith;
  each = λ found stop.
      let knows = coordinator_knows store shards found (coordinators found stop) in (
        0,
        omega arith,
        omega arith,
        record {
          image = coordinator_image store shards found (coordinators found stop);
          decided = subst (CoordinatorMeans [] 0) (sym knows.1) (decided store shards knows.0);
          each_shard = λ s at lt here.
              let is = all_shards s at lt here in
              let shard_is = shard_knows store shards s at is in
              record {
                image = shard_image store shards s at is;
                means = subst (λ (c : CoordinatorState). ShardMeans shards s [] c.horizon 0 (shard_state at)) (sym knows.1) (subst (ShardMeans shards s [] 0 0) (sym shard_is.1) (means store shards s shard_is.0));
                given = subst (AreGivenInDoubt (coordinator_state found).epoch) (sym shard_is.1) (none_given store shards (coordinator_state found).epoch shard_is.0);
              };
        },
      );
}
