-- Laws of an opening of the coordinator, and of openings that are refused.
use Rattle.std.specs.Prelude.{◌≡◌, ◌≢◌, ◌⊎◌, ◌↔◌, ℕ, List, [], ◌∷◌, ◌++◌, take}
use Rattle.refusal.specs.declared.refusal.Refusal.{Refusal}
use Rattle.records.specs.declared.record.Record.{Record}
use Rattle.records.specs.declared.record.Record.TheVariants.{Epoch}
use Rattle.records.specs.Coordinators.{CoordinatorState, IsCoordinatorImage, coordinator_state, end_of}
use Rattle.records.specs.Identity.{coordinator_number}
use Rattle.records.specs.Replays.{IsShardImage}
use Rattle.laws.specs.Worlds.{coordinator_node, shard_node}
use Rattle.laws.specs.Machines.{Machine}
use Rattle.stores.specs.Moments.{Moment, reopened}
use Rattle.laws.specs.Nodes.{IsOfRefusedOpening, NodeName, Nodes, SameBut, coordinator, leaves, refused, shard, up}
use Rattle.stores.specs.OpeningLaws.{OpensShard}
use Rattle.stores.specs.StagingLaws.{with_nodes}
use Rattle.stores.specs.Stands.{IsHorizonIn, Stands}
use Rattle.turns.specs.Runs.{Restarts, came_up, refuses}
use Rattle.laws.specs.Stops.{RestsBetween}

-- records that a stop could leave of the coordinator, followed by the record of an opening
pub record IsReopenedCoordinator (store shards : ℕ) (left : NodeName → List Record → Type 0) (rs : List Record) : Type 0 where
  pub found : List Record
  pub epoch : ℕ
  pub was_left : left coordinator found
  pub is : rs ≡ found ++ Epoch epoch store shards coordinator_number ∷ []
  pub image : IsCoordinatorImage (coordinator_node store shards) (found ++ Epoch epoch store shards coordinator_number ∷ [])

-- records that a stop could leave of shard s, followed by the record of an opening
pub record IsReopenedShard (store shards s : ℕ) (left : NodeName → List Record → Type 0) (rs : List Record) : Type 0 where
  pub found : List Record
  pub epoch : ℕ
  pub was_left : left (shard s) found
  pub is : rs ≡ found ++ Epoch epoch store shards s ∷ []
  pub image : IsShardImage (shard_node store shards s) (found ++ Epoch epoch store shards s ∷ [])

-- The coordinator is opened, whatever it was before: it finds records that a stop could leave, and from then on a stop leaves these with the
-- record of the opening, and no others. No write is open, and it has given no number yet.
pub record OpensCoordinator (store shards : ℕ) (left after : NodeName → List Record → Type 0) (old new : Nodes) : Type 0 where
  pub found : List Record
  pub epoch : ℕ
  pub was_left : left coordinator found
  pub now : new.at coordinator ≡ up (found ++ Epoch epoch store shards coordinator_number ∷ []) []
  pub unchanged : (s : ℕ) → new.at (shard s) ≡ old.at (shard s)
  pub open_writes : new.open_writes ≡ []
  pub given : new.given ≡ 0
  pub same : (s : ℕ) (rs : List Record) → after (shard s) rs ↔ left (shard s) rs
  pub here : (rs : List Record) → after coordinator rs ↔ (rs ≡ found ++ Epoch epoch store shards coordinator_number ∷ [])

-- The coordinator's opening is refused: no write is open, and a stop leaves what it could leave before, or that with the record of the opening.
pub record RefusesCoordinator (store shards : ℕ) (left after : NodeName → List Record → Type 0) (e : Refusal) (old new : Nodes) : Type 0 where
  pub now : new.at coordinator ≡ refused e
  pub unchanged : (s : ℕ) → new.at (shard s) ≡ old.at (shard s)
  pub open_writes : new.open_writes ≡ []
  pub same : (s : ℕ) (rs : List Record) → after (shard s) rs ↔ left (shard s) rs
  pub here : (rs : List Record) → after coordinator rs → left coordinator rs ⊎ IsReopenedCoordinator store shards left rs

-- A shard's opening is refused: a stop leaves what it could leave before, or that with the record of the opening.
pub record RefusesShard (store shards s : ℕ) (left after : NodeName → List Record → Type 0) (e : Refusal) (old new : Nodes) : Type 0 where
  pub now : new.at (shard s) ≡ refused e
  pub others : SameBut (shard s) old new
  pub same : (n : NodeName) (rs : List Record) → n ≢ shard s → after n rs ↔ left n rs
  pub here : (rs : List Record) → after (shard s) rs → left (shard s) rs ⊎ IsReopenedShard store shards s left rs

-- the machine cut to what was found, all of it kept, with the horizon of what was found
abbrev pub cut_to : Machine → CoordinatorState → Machine
cut_to m found = record { log = take (end_of found) m.log; kept = end_of found; horizon = found.horizon }

-- the moment after an opening of the coordinator: with these nodes, this machine, and each flow marked
abbrev pub with_restart : Moment → Nodes → Machine → Moment
with_restart now next m = record now { nodes = next; machine = m; running = reopened now.running }

-- Given a store's id and number of shards, and what a stop may leave of each node before an opening and after it
module _ (store shards : ℕ) (left after : NodeName → List Record → Type 0) where
  -- an opening of the coordinator leaves the store standing for the machine cut to what was found, and is a step of a run
  abbrev pub CoordinatorOpeningsStand : Type 0
  CoordinatorOpeningsStand = (now : Moment) (next : Nodes) → Stands store shards left now → (opens : OpensCoordinator store shards left after now.nodes next)
      → IsCoordinatorImage (coordinator_node store shards) (opens.found ++ Epoch opens.epoch store shards coordinator_number ∷ [])
      → let later = with_restart now next (cut_to now.machine (coordinator_state opens.found)) in
      Stands store shards after later × Restarts shards (IsHorizonIn store shards left now.nodes) now coordinator (came_up ∷ []) later

  -- an opening of a shard is a step of a run
  abbrev pub ShardOpeningsRestart : Type 0
  ShardOpeningsRestart = (now : Moment) (next : Nodes) (s : ℕ) → OpensShard store shards s left after now.nodes next
      → Restarts shards (IsHorizonIn store shards left now.nodes) now (shard s) (came_up ∷ []) (with_nodes now next)

  -- an opening of the coordinator that is refused leaves the store standing for the same machine, and is a step of a run
  abbrev pub RefusedCoordinatorsStand : Type 0
  RefusedCoordinatorsStand = (now : Moment) (next : Nodes) (e : Refusal) → Stands store shards left now → IsOfRefusedOpening e
      → RefusesCoordinator store shards left after e now.nodes next
      → let later = with_restart now next now.machine in
      Stands store shards after later × Restarts shards (IsHorizonIn store shards left now.nodes) now coordinator (refuses e ∷ []) later

  -- and one of a shard that is refused, with the same flows
  abbrev pub RefusedShardsStand : Type 0
  RefusedShardsStand = (now : Moment) (next : Nodes) (s : ℕ) (e : Refusal) → Stands store shards left now → IsOfRefusedOpening e
      → RefusesShard store shards s left after e now.nodes next
      → Stands store shards after (with_nodes now next) × Restarts shards (IsHorizonIn store shards left now.nodes) now (shard s) (refuses e ∷ []) (with_nodes now next)

-- Within a step a stop leaves of each node what it could leave before, with what is staged or without, or with the record of an opening: all of
-- that means a beginning of the log that holds what is kept.
abbrev pub StopsWithinSteps : ℕ → ℕ → (NodeName → List Record → Type 0) → (NodeName → List Record → Type 0) → Type 0
StopsWithinSteps store shards left within = (now : Moment) (after : Machine) → Stands store shards left now
    → ((rs : List Record) → within coordinator rs → leaves left now.nodes coordinator rs ⊎ IsReopenedCoordinator store shards left rs)
    → ((s : ℕ) (rs : List Record) → within (shard s) rs → leaves left now.nodes (shard s) rs ⊎ IsReopenedShard store shards s left rs)
    → RestsBetween store shards now.machine after (within coordinator) (λ s. within (shard s))
