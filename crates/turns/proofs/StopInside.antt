-- Within a step a stop leaves what it could leave before, or that with an opening: it means what it meant.
use Rattle.std.proofs.Common.{◌⊎◌, inl, ⊎_elim, List, refl, sym, subst}
use Rattle.turns.proofs.Words.{IsReopenedCoordinator, IsReopenedShard, Means, NodeName, Nodes, Record, at_shards, coordinator, leaves, shard}
use Rattle.std.specs.Prelude.{ℕ}
use Rattle.turns.specs.RestartLaws.{StopsWithinSteps}
use Rattle.laws.proofs.CoordinatorSteps.{opened_means}
use Rattle.stores.proofs.Places.{IsInPlace, MeansAsBefore, each_in_place, opened_place, still_in_place, still_means}

module _ (store shards : ℕ) (left : NodeName → List Record → Type 0) (nodes : Nodes) where
  pub opened_in_place : (s : ℕ) (rs : List Record) → IsReopenedShard store shards s left rs → IsInPlace store shards left nodes s rs
  opened_in_place s rs re = subst (IsInPlace store shards left nodes s) (sym re.is) (re.found, (re.found, re.was_left, inl refl), opened_place store shards s re.found re.epoch re.image)

  pub left_or_opened : (s : ℕ) (rs : List Record) → leaves left nodes (shard s) rs ⊎ IsReopenedShard store shards s left rs → IsInPlace store shards left nodes s rs
  left_or_opened s rs = ⊎_elim (still_in_place store shards left nodes s rs) (opened_in_place s rs)

  pub means_or_opened : (rs : List Record) → leaves left nodes coordinator rs ⊎ IsReopenedCoordinator store shards left rs → MeansAsBefore store shards left nodes rs
  means_or_opened rs = ⊎_elim
      (still_means store shards left nodes rs)
      (λ (re : IsReopenedCoordinator store shards left rs). (
        re.found,
        (re.found, re.was_left, inl refl),
        λ log h m. subst (λ (l : List Record). Means store shards log h l (at_shards (leaves left nodes))) (sym re.is) (opened_means store shards log h re.found re.epoch (at_shards (leaves left nodes)) re.image m),
      ))

pub stops_within_steps : (store shards : ℕ) (left within : NodeName → List Record → Type 0) → StopsWithinSteps store shards left within
stops_within_steps store shards left within now after stands of_coordinator of_shard rs is =
    let was = each_in_place store shards left now.nodes (λ s. within (shard s)) (λ s r x. left_or_opened store shards left now.nodes s r (of_shard s r x)) now.machine.log now.machine.kept now.machine.horizon stands.rests rs
    (means_or_opened store shards left now.nodes rs (of_coordinator rs is)) in
    inl (record { n = was.0; holds = was.1; within = was.2; means = was.3 })
