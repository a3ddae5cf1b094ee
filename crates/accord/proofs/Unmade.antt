-- Nodes that were never made agree on the empty list.
use Rattle.std.proofs.Common.{◌≡◌, inl, inr, ⊎_elim, ℕ, ◌<◌, false, List, [], ◌∷◌, take, Contains, refl, sym, subst, arith}
use Rattle.std.proofs.lemmas.List.Elements.{Contains-push_cases}
use Rattle.records.specs.declared.record.Record.{Record}
use Rattle.records.specs.Coordinators.{coordinator_state}
use Rattle.records.specs.Replays.{IsShardImage, shard_state}
use Rattle.laws.specs.Shards.{ShardMeans}
use Rattle.laws.specs.Worlds.{Means, Rests, shard_node}
use Rattle.laws.proofs.EmptyStore.{empty_rests}
use Rattle.accord.specs.Agreeing.{Agree, MayLeave, UnmadeNodesAgree, log_leaves, shard_leaves, unmade}

here : Contains {X = List Record} ([] ∷ []) []
here = (0, omega arith, refl)

no_records : (found : List Record) → MayLeave ([] ∷ []) false [] found → found ≡ []
no_records found (inl has) = ⊎_elim (λ (none : Contains [] found). absurd (omega (arith, none.1))) (λ is. sym is) (Contains-push_cases [] [] found has)
no_records found (inr up) = up.1

module _ (store shards : ℕ) where
  rests : Rests store shards [] 0 0 (log_leaves unmade.coordinator) (shard_leaves unmade.shard)
  rests = empty_rests (log_leaves unmade.coordinator) (log_leaves unmade.coordinator) (shard_leaves unmade.shard) (shard_leaves unmade.shard) store shards
      (λ found is. inl (no_records found is))
      (λ s found lt is. inl (no_records found is))

  means : Means store shards [] 0 [] (shard_leaves unmade.shard)
  means =
      let m = rests.each [] (inl here) in
      let low = m.2 in
      subst (λ (n : ℕ). Means store shards (take n []) 0 [] (shard_leaves unmade.shard)) (let none : m.0 ≡ 0 = omega (arith, low) in none) m.3

  listed : (s : ℕ) (found : List Record) → s < shards → shard_leaves unmade.shard s found → IsShardImage (shard_node store shards s) found × ShardMeans shards s [] 0 0 (shard_state found)
  unfolding coordinator_state
  listed s found lt is = let m = means.each_shard s found lt is in (m.image, m.means)

  agree : Agree store shards unmade
  agree = record {
    rests = rests;
    whole = λ up. absurd cc;
    listed = listed;
    some = λ s lt. ([], inl here);
    distinct = λ i j v w is_v is_w same. absurd cc;
    undecided = λ w none. absurd (omega (arith, none.1));
  }

pub unmade_nodes_agree : UnmadeNodesAgree
unmade_nodes_agree store shards = agree store shards
