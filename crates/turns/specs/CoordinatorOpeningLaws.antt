-- The seams between the contracts of the coordinator's opening and of its flush, over the devices of a store, and steps of a run. Of the premises, the
-- records of a call's contract and its clauses at every moment are the coordinator's; that both devices were revived is the device's contract; and that
-- the store stands, the store's.
use Rattle.std.specs.Prelude.{◌≡◌, ◌≢◌, ◌⊎◌, ℕ, List, [], ◌∷◌, ◌++◌, Some}
use Rattle.refusal.specs.declared.refusal.Refusal.{Refusal}
use Rattle.tuples.specs.declared.entry.Entry.{Entry}
use Rattle.records.specs.declared.record.Record.{Record}
use Rattle.records.specs.Coordinators.{IsCoordinatorImage, coordinator_state}
use Rattle.records.specs.Replays.{greatest_number}
use Rattle.device.specs.Device.{HasFailed, State, left}
use Rattle.journal.specs.Records.{LeavesBoth, LeavesEach, found}
use Rattle.decisions.specs.Coordinators.{CoordinatorView, IsOpenedCoordinator, IsRunning, KeepsOpen, WasLeftOrReopened}
use Rattle.laws.specs.Nodes.{IsOfRefusedOpening, NodeName, Nodes, StandFor, coordinator, down, epoch_of, refused}
use Rattle.laws.specs.Worlds.{Rests, coordinator_node}
use Rattle.stores.specs.FlushLaws.{FailsFlush, FlushesCoordinator, HasOldOrSame}
use Rattle.stores.specs.Moments.{Moment}
use Rattle.stores.specs.Stands.{IsHorizonIn, Stands, at_shards}
use Rattle.stores.specs.Stores.{stops}
use Rattle.turns.specs.Promises.{ComesUp, HasDeviceCause}
use Rattle.turns.specs.RestartLaws.{cut_to, with_restart}
use Rattle.turns.specs.Runs.{Restarts, came_up, refuses}
use Rattle.turns.specs.SeamLaws.{IsSeen, at_coordinator, behind}
use Rattle.turns.specs.ShardOpeningLaws.{AreRevived}

-- a coordinator that was just opened has staged nothing, and has no open write
pub record IsFresh {D : Type 0} (v : CoordinatorView D) : Type 0 where
  pub staged : v.staged ≡ []
  pub open_ids : v.open_ids ≡ []
  pub given : v.given ≡ 0

-- the nodes after an opening of the coordinator that was refused
abbrev pub behind_refusal : Nodes → Refusal → Nodes
behind_refusal nodes e = record { at = at_coordinator (refused e) nodes.at; open_writes = []; given = nodes.given }

-- Given what a device holds and whether it is honest, how often a stop may have come at it, what a stop since then may have left, and a store's id
-- and number of shards
module _ {D : Type 0} (state : D → State) (honest : D → Type 0) (moment : D → ℕ) (left_since : D → ℕ → List ℕ → Type 0) (store shards : ℕ) where
  -- the coordinator's devices are these, and no other node's have changed
  pub record IsOverDevices (old : NodeName → D × D) (a b : D) (new : NodeName → D × D) : Type 0 where
    pub first : (new coordinator).0 ≡ a
    pub second : (new coordinator).1 ≡ b
    pub others : (n : NodeName) → n ≢ coordinator → new n ≡ old n

  -- they are honest, and at every moment since these a stop leaves what has P
  pub record AreLeft (old : NodeName → D × D) (a b new_a new_b : D) (new : NodeName → D × D) (P : List ℕ → List ℕ → Type 0) : Type 0 where
    pub over : IsOverDevices old new_a new_b new
    pub honest_a : honest new_a
    pub honest_b : honest new_b
    pub any_moment : LeavesBoth moment left_since a b new_a new_b P

  -- the coordinator's opening left them
  abbrev pub OpensOverDevices : (NodeName → D × D) → D → D → D → D → (NodeName → D × D) → Type 0
  OpensOverDevices old a b new_a new_b new = AreLeft old a b new_a new_b new (WasLeftOrReopened (coordinator_node store shards) (state a) (state b))

  -- a flush that answers Ok is one of a coordinator of the store, with what stands for the same as what was durable and staged
  abbrev pub FlushesOverDevices : Type 0
  FlushesOverDevices = (old new : NodeName → D × D) (now : Moment) (was v : CoordinatorView D) → IsSeen now.nodes was → IsRunning state honest v
      → StandFor coordinator (was.durable ++ was.staged) v.durable → v.staged ≡ [] → KeepsOpen was v
      → IsOverDevices old v.a v.b new
      → let next = behind now.nodes v now.nodes.open_writes in
      IsSeen next v × FlushesCoordinator (stops state honest store shards old) (stops state honest store shards new) now.nodes next

  -- so is one that fails, and takes the coordinator down
  abbrev pub FailsOverDevices : Type 0
  FailsOverDevices = (old new : NodeName → D × D) (now : Moment) (was v : CoordinatorView D) → IsSeen now.nodes was
      → IsOverDevices old v.a v.b new → honest v.a → honest v.b
      → LeavesEach moment left_since was.a was.b v.a v.b (HasOldOrSame coordinator was.durable was.staged)
      → FailsFlush (stops state honest store shards old) (stops state honest store shards new) now.nodes (record now.nodes { at = at_coordinator down now.nodes.at })

  -- an opening that answers Ok is a step of a run: the coordinator comes up, and the machine is cut to what was found
  abbrev pub CoordinatorOpeningsStep : Type 0
  CoordinatorOpeningsStep = (old new : NodeName → D × D) (now : Moment) (a b : D) (v : CoordinatorView D) → Stands store shards (stops state honest store shards old) now
      → AreRevived state honest moment left_since store shards old coordinator a b → (opened : IsOpenedCoordinator state honest a b (coordinator_node store shards) v) → IsFresh v → OpensOverDevices old a b v.a v.b new
      → let next = behind now.nodes v [] in
      let later = with_restart now next (cut_to now.machine (coordinator_state opened.rs)) in
      IsSeen next v × Stands store shards (stops state honest store shards new) later
      × Restarts shards (IsHorizonIn store shards (stops state honest store shards old) now.nodes) now coordinator (came_up ∷ []) later
      × ComesUp state honest moment left_since store shards old coordinator (next.at coordinator)

  -- so is one that is refused, for Down, NoMemory or Full, over the same machine
  abbrev pub RefusedOpeningsStep : Type 0
  RefusedOpeningsStep = (old new : NodeName → D × D) (now : Moment) (a b new_a new_b : D) (e : Refusal) → Stands store shards (stops state honest store shards old) now
      → AreRevived state honest moment left_since store shards old coordinator a b → IsOfRefusedOpening e → OpensOverDevices old a b new_a new_b new
      → let later = with_restart now (behind_refusal now.nodes e) now.machine in
      Stands store shards (stops state honest store shards new) later
      × Restarts shards (IsHorizonIn store shards (stops state honest store shards old) now.nodes) now coordinator (refuses e ∷ []) later

  -- one that answers Full was opened as often as possible
  abbrev pub FullCoordinatorsWereOpened : Type 0
  FullCoordinatorsWereOpened = (old : NodeName → D × D) (a b : D) → AreRevived state honest moment left_since store shards old coordinator a b
      → ((rs : List Record) × (found (state a).seen (state b).seen ≡ Some rs) × IsCoordinatorImage (coordinator_node store shards) rs × ((coordinator_state rs).epoch ≡ greatest_number))
      → (was : List Record) × stops state honest store shards old coordinator was × (epoch_of coordinator was ≡ greatest_number)

  -- if a device fails in it, a device of the coordinator failed
  abbrev pub FailedOpeningsHaveCause : Type 0
  FailedOpeningsHaveCause = (old new : NodeName → D × D) (a b : D) → AreRevived state honest moment left_since store shards old coordinator a b
      → HasFailed (state a) (state (new coordinator).0) ⊎ HasFailed (state b) (state (new coordinator).1)
      → HasDeviceCause state honest moment left_since store shards old new coordinator

  -- The coordinator is not damaged: over the devices of a store at rest, whose contents hold records, it never answers Damaged, of which this is the
  -- clause.
  abbrev pub NoCoordinatorIsDamaged : Type 0
  NoCoordinatorIsDamaged = (old : NodeName → D × D) (a b : D) (log : List Entry) (kept h : ℕ) → AreRevived state honest moment left_since store shards old coordinator a b
      → Rests store shards log kept h (stops state honest store shards old coordinator) (at_shards (stops state honest store shards old))
      → ((x y : List ℕ) → left (state (old coordinator).0) x → left (state (old coordinator).1) y → (rs : List Record) × (found x y ≡ Some rs))
      → ((rs : List Record) → found (state a).seen (state b).seen ≡ Some rs → IsCoordinatorImage (coordinator_node store shards) rs → ⊥) → ⊥
