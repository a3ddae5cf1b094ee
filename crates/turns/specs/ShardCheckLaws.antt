-- The seams between the contract of a shard's read for a check, and turns of a run.
use Rattle.std.specs.Prelude.{◌≡◌, ◌≢◌, ◌⊎◌, ◌≤◌, ◌<◌, ℕ, true, List, [], ◌∷◌, Some, Contains}
use Rattle.refusal.specs.declared.refusal.Refusal.{Refusal}
use Rattle.refusal.specs.declared.refusal.Refusal.TheVariants.{Collected, NoMemory, Unsure}
use Rattle.tuples.specs.declared.object.Userset.{Userset}
use Rattle.tuples.specs.declared.tuple.Tuple.{Tuple}
use Rattle.tuples.specs.declared.user.User.{User}
use Rattle.tuples.specs.Checking.{holding}
use Rattle.tuples.specs.Parts.{shard_of}
use Rattle.tuples.specs.Versions.{there_at}
use Rattle.tuples.specs.Walking.{IsCheckSelection}
use Rattle.records.specs.declared.record.Record.{Record}
use Rattle.shard.specs.Shards.{ShardView, memory}
use Rattle.laws.specs.Nodes.{NodeName, coordinator, shard}
use Rattle.stores.specs.Causes.{HasItsCause}
use Rattle.stores.specs.CheckingLaws.{Walks}
use Rattle.stores.specs.Flows.{CheckHolds, Freshness, checking, to_check}
use Rattle.stores.specs.Moments.{Moment, Running}
use Rattle.stores.specs.Replies.{checked}
use Rattle.stores.specs.Stands.{IsHorizonIn, Stands}
use Rattle.turns.specs.QuietTurns.{ending, with_call}
use Rattle.turns.specs.Runs.{Turns, answered}
use Rattle.turns.specs.ShardSeamLaws.{ShardIsSeen, StandsAndTurns}

-- read_for_check gives rows, at a place that the shard has learned and that is not below its horizon
pub record ReadsForCheckAt {D : Type 0} (v : ShardView D) (place : ℕ) (y : Userset) (u : User) (rows : List Tuple) : Type 0 where
  pub learned : place ≤ (memory v).learned
  pub above : (memory v).horizon ≤ place
  pub rows_are : IsCheckSelection (there_at (memory v).rows place) y u rows

-- a running check that has found its place, and what it holds
pub record IsChecker (now : Moment) (r : Running) (fresh : Freshness) (x : Userset) (u : User) (h : CheckHolds) (place : ℕ) : Type 0 where
  pub running : Contains now.running r
  pub asked : r.asked ≡ to_check fresh x u
  pub holds : r.holds ≡ checking h
  pub at_place : h.place ≡ Some place

-- The store has this id and this many shards, and a stop may leave this of each node, except for what is staged. That the store stands, that the shard is
-- seen so and what it read are the call's premises; the others are the flow's. D is what a device is.
module _ (store shards : ℕ) (left : NodeName → List Record → Type 0) (D : Type 0) where
  -- what a userset's own shard read for a check is a turn of a run, after which the check has walked that userset, if none of the rows is the user's
  abbrev pub CheckTurns : Type 0
  CheckTurns = (now : Moment) (old : ShardView D) (s : ℕ) (fresh : Freshness) (x y : Userset) (u : User) (place : ℕ) (rows : List Tuple) (r : Running) (h later : CheckHolds)
      → Stands store shards left now → ((found : List Record) × left coordinator found) → ShardIsSeen store shards s now.nodes old → s ≡ shard_of shards y.object
      → IsChecker now r fresh x u h place → ReadsForCheckAt old place y u rows → Walks y rows h later → (Contains rows (holding y u) → ⊥)
      → StandsAndTurns store shards left now now.nodes r (with_call r (checking later) r.met now.machine)

  -- and one with which the check ends, and says yes, if one is
  abbrev pub CheckYesTurns : Type 0
  CheckYesTurns = (now : Moment) (old : ShardView D) (s : ℕ) (fresh : Freshness) (x y : Userset) (u : User) (place : ℕ) (rows : List Tuple) (r : Running) (h : CheckHolds)
      → Stands store shards left now → ((found : List Record) × left coordinator found) → ShardIsSeen store shards s now.nodes old → s ≡ shard_of shards y.object
      → IsChecker now r fresh x u h place → ReadsForCheckAt old place y u rows → Contains h.waiting y → Contains rows (holding y u)
      → let ran = ending now now.nodes now.machine r [] in
      Stands store shards left ran × Turns shards (IsHorizonIn store shards left now.nodes) now r (answered (checked place true) ∷ []) ran

  -- a refusal of it has its cause
  abbrev pub RefusedChecksHaveCause : Type 0
  RefusedChecksHaveCause = (now behind : Moment) (old : ShardView D) (s : ℕ) (fresh : Freshness) (x : Userset) (u : User) (place : ℕ) (e : Refusal) (r : Running) (h : CheckHolds)
      → Stands store shards left now → ShardIsSeen store shards s now.nodes old → IsChecker now r fresh x u h place
      → ((e ≡ Collected) × (place < (memory old).horizon)) ⊎ (e ≡ NoMemory) → HasItsCause shards (shard s) now behind r e × (e ≢ Unsure)
