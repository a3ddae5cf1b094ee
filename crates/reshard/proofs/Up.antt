-- One shard more that is up, and the first that is not.
use Rattle.std.proofs.Common.{◌≡◌, ◌<◌, ◌≤◌, ◌+◌, ◌⊎◌, ⊎_elim, ℕ, suc, List, arith, sym, subst}
use Rattle.calls.specs.Views.{NodeView}
use Rattle.calls.specs.declared.carrying.Reach.{Reach}
use Rattle.cluster.specs.Openings.{name_at}
use Rattle.cluster.specs.Worlds.{WorldView}
use Rattle.device.specs.Device.{State}
use Rattle.names.specs.declared.node_name.NodeName.TheVariants.{Shard}
use Rattle.refusal.specs.declared.refusal.Refusal.{Refusal}
use Rattle.reshard.specs.Caring.{ReachesAt}
use Rattle.reshard.specs.Refusing.{IsFirstDown, RefusesAt}

module _ {D : Type 0} (state : D → State) (honest : D → Type 0) where
  -- so many shards are up, and the coordinator
  abbrev AreUpTo : List (NodeView D) → ℕ → Type 0
  AreUpTo nodes count = (i : ℕ) → i ≤ count → (reach : Reach) × ReachesAt state honest nodes (name_at i) reach

  pub up_more : (nodes : List (NodeView D)) (shard : ℕ) (reach : Reach) → AreUpTo nodes shard → ReachesAt state honest nodes (Shard shard) reach → AreUpTo nodes (shard + 1)
  up_more nodes shard reach before here i within =
      ⊎_elim (before i) (λ is. subst (λ (k : ℕ). (r : Reach) × ReachesAt state honest nodes (name_at k) r) (sym is) (reach, here)) (which i shard within)
    where
      which : (a b : ℕ) → a ≤ b + 1 → (a ≤ b) ⊎ (a ≡ suc b)
      which a b le = grind arith

  pub first_down : (w : WorldView D) (shard : ℕ) (e : Refusal) → shard < w.shards → AreUpTo w.nodes shard → RefusesAt state honest w.nodes (Shard shard) e → IsFirstDown state honest w e
  first_down w shard e within before refuses = record { place = suc shard; within = omega (arith, within); refuses = refuses; before = λ i less. before i (omega (arith, less)) }
