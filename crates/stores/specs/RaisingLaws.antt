-- A law of a raised horizon: with its record staged the store still stands for the same machine, until a flush.
use Rattle.std.specs.Prelude.{◌≡◌, ℕ, List, [], ◌∷◌, ◌++◌}
use Rattle.records.specs.declared.record.Record.{Record}
use Rattle.records.specs.declared.record.Record.TheVariants.{Horizon}
use Rattle.records.specs.Coordinators.{IsCoordinatorImage}
use Rattle.laws.specs.CoordinatorLaws.{IsLearnedInAll}
use Rattle.laws.specs.Worlds.{coordinator_node}
use Rattle.stores.specs.Moments.{Moment}
use Rattle.laws.specs.Nodes.{NodeName, Nodes, coordinator, leaves, shard, up}
use Rattle.stores.specs.StagingLaws.{with_nodes}
use Rattle.stores.specs.Stands.{Stands, at_shards}

-- the coordinator stages a horizon, and nothing else is changed
pub record StagesHorizon (place : ℕ) (old new : Nodes) : Type 0 where
  pub durable : List Record
  pub staged : List Record
  pub was : old.at coordinator ≡ up durable staged
  pub now : new.at coordinator ≡ up durable (staged ++ Horizon place ∷ [])
  pub shards : (s : ℕ) → new.at (shard s) ≡ old.at (shard s)
  pub open_writes : new.open_writes ≡ old.open_writes
  pub given : new.given ≡ old.given

-- a horizon up to which each shard has learned, whatever a stop leaves, with what is staged or without
abbrev pub RaisesStand : ℕ → ℕ → (NodeName → List Record → Type 0) → Type 0
RaisesStand store shards left = (now : Moment) (next : Nodes) (place : ℕ) → Stands store shards left now
    → (step : StagesHorizon place now.nodes next) → IsCoordinatorImage (coordinator_node store shards) ((step.durable ++ step.staged) ++ Horizon place ∷ [])
    → IsLearnedInAll shards (at_shards (leaves left now.nodes)) place
    → Stands store shards left (with_nodes now next)
