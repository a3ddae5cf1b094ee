-- Values that pass between the coordinator and the shards, as contracts see them.
use Rattle.std.specs.Prelude.{◌≡◌, ◌⊎◌, ◌≤◌, ◌<◌, ◌+◌, ◌-◌, ◌++◌, ℕ, List, drop, true, is_some, Contains}
use Rattle.tuples.specs.declared.entry.Entry.{Entry}
use Rattle.tuples.specs.declared.entry.WriteId.{WriteId}
use Rattle.tuples.specs.Changes.{IsWrite}
use Rattle.records.specs.declared.record.Record.{Record}
use Rattle.records.specs.declared.record.Record.TheVariants.{Epoch}
use Rattle.records.specs.Format.{IsWriteId}
use Rattle.records.specs.Coordinators.{CoordinatorState, IsNotAbove, coordinator_state, end_of}
use Rattle.records.specs.Replays.{AskOfLog, shard_state, find_in_doubt, greatest_number}
use Rattle.device.specs.Device.{State, left}
use Rattle.journal.specs.Records.{Finds, HasRecords, View}

-- an intent: the write with its id, and the kept place when it was begun
pub record IntentValue : Type 0 where
  pub write : Entry
  pub kept : ℕ

-- an id that a coordinator gives: its numbers begin at 1 and end at the greatest
pub record IsGiven (id : WriteId) : Type 0 where
  pub begun : IsWriteId id
  pub epoch : id.epoch ≤ greatest_number
  pub number : id.number ≤ greatest_number

-- a whole write under an id that a coordinator gave, whose conditions ask about places of a log
pub record IsIntent (write : Entry) : Type 0 where
  pub id : IsGiven write.id
  pub whole : IsWrite write.changes write.conditions
  pub places : AskOfLog write.conditions

-- by these records a coordinator that has given this many numbers since its opening gives this id next
abbrev pub IsNextId : List Record → ℕ → WriteId → Type 0
IsNextId rs given id = id ≡ record { epoch = (coordinator_state rs).epoch; number = given + 1 }

-- every stop leaves the durable records, and the place is the end of their decisions
pub record IsKeptEnd {D : Type 0} (state : D → State) (j : View D) (kept : ℕ) : Type 0 where
  pub rest : HasRecords (state j.a) (state j.b) j.durable
  pub place : kept ≡ end_of (coordinator_state j.durable)

-- over honest devices an intent is begun under the id that comes next, at the kept place
abbrev pub IsBegunBy : {D : Type 0} → (D → State) → (D → Type 0) → View D → ℕ → WriteId → ℕ → Type 0
IsBegunBy state honest j given id kept = honest j.a → honest j.b → IsNextId j.durable given id × IsKeptEnd state j kept

-- decisions after a place, in the order of their places
pub record BatchValue : Type 0 where
  pub from : ℕ
  pub writes : List Entry

-- the writes stand one after another in what is known of a log, the first of them right after the place
pub record IsStretch (s : CoordinatorState) (from : ℕ) (writes : List Entry) : Type 0 where
  pub base : s.base ≤ from
  pub rest : List Entry
  pub log : drop (from - s.base) s.log ≡ writes ++ rest

-- over honest devices every stop leaves the durable records, and the writes are a stretch of their decisions
abbrev pub AreDecidedBy : {D : Type 0} → (D → State) → (D → Type 0) → View D → ℕ → List Entry → Type 0
AreDecidedBy state honest j from writes = honest j.a → honest j.b → HasRecords (state j.a) (state j.b) j.durable × IsStretch (coordinator_state j.durable) from writes

-- one of these records counts an opening of the node with this number
abbrev pub NamesNode : List Record → ℕ → Type 0
NamesNode rs node = (epoch store shards : ℕ) × Contains rs (Epoch epoch store shards node)

-- over honest devices an opening of the node with this number is durable
abbrev pub IsOfNode : {D : Type 0} → (D → Type 0) → View D → ℕ → Type 0
IsOfNode honest j node = honest j.a → honest j.b → NamesNode j.durable node

-- the write is prepared in whatever a stop leaves of the two devices
abbrev pub IsPreparedIn : {D : Type 0} → (D → State) → (D → Type 0) → D → D → WriteId → Type 0
IsPreparedIn state honest a b id =
    honest a → honest b → (rs : List Record) → Finds (left (state a)) (left (state b)) rs → is_some (find_in_doubt id (shard_state rs).in_doubt) ≡ true

-- a ticket: the write, and how often its shard was opened
pub record TicketValue : Type 0 where
  pub id : WriteId
  pub epoch : ℕ

-- the write is in doubt by what is durable and staged
abbrev pub IsHeldBy : {D : Type 0} → (D → Type 0) → View D → WriteId → Type 0
IsHeldBy honest j id = honest j.a → honest j.b → is_some (find_in_doubt id (shard_state (j.durable ++ j.staged)).in_doubt) ≡ true

-- a shard with these records, durable and staged, was opened this often
abbrev pub HasEpoch : {D : Type 0} → (D → Type 0) → View D → ℕ → Type 0
HasEpoch honest j epoch = honest j.a → honest j.b → epoch ≡ (shard_state (j.durable ++ j.staged)).epoch

-- a vote: the write, and the shard that has its prepare
pub record VoteValue : Type 0 where
  pub id : WriteId
  pub shard : ℕ

-- a shard, and the place that it has learned for good
pub record SettledValue : Type 0 where
  pub shard : ℕ
  pub place : ℕ

-- whatever a stop leaves of the two devices has learned at least up to the place
abbrev pub HasLearnedIn : {D : Type 0} → (D → State) → (D → Type 0) → D → D → ℕ → Type 0
HasLearnedIn state honest a b place = honest a → honest b → (rs : List Record) → Finds (left (state a)) (left (state b)) rs → place ≤ (shard_state rs).learned

-- a verdict: the write that was aborted
pub record VerdictValue : Type 0 where
  pub id : WriteId

-- a coordinator that has given this many numbers since its opening has given this id, since then or in an earlier epoch
abbrev pub WasGiven : CoordinatorState → ℕ → WriteId → Type 0
WasGiven s given id = (id.epoch < s.epoch) ⊎ ((id.epoch ≡ s.epoch) × (id.number ≤ given))

-- its number is not among those of the writes that were begun since the opening and are still open
abbrev pub IsNotOpen : CoordinatorState → List ℕ → WriteId → Type 0
IsNotOpen s numbers id = id.epoch ≡ s.epoch → Contains numbers id.number → ⊥

-- every stop leaves the durable records; the id was given out, its write is not open, and no decision above the horizon has it, by what is durable and with
-- what is staged
pub record IsAborted {D : Type 0} (state : D → State) (j : View D) (given : ℕ) (still_open : List ℕ) (id : WriteId) : Type 0 where
  pub rest : HasRecords (state j.a) (state j.b) j.durable
  pub given_out : WasGiven (coordinator_state j.durable) given id
  pub closed : IsNotOpen (coordinator_state j.durable) still_open id
  pub durable : IsNotAbove id (coordinator_state j.durable)
  pub staged : IsNotAbove id (coordinator_state (j.durable ++ j.staged))

-- over honest devices the write is aborted
abbrev pub IsAbortedBy : {D : Type 0} → (D → State) → (D → Type 0) → View D → ℕ → List ℕ → WriteId → Type 0
IsAbortedBy state honest j given still_open id = honest j.a → honest j.b → IsAborted state j given still_open id

-- the numbers of a coordinator: of its decisions, of those that every stop leaves, and its durable horizon
pub record HeadsValue : Type 0 where
  pub length : ℕ
  pub kept : ℕ
  pub horizon : ℕ

-- every stop leaves the durable records, and the numbers are those of the records
pub record CountsRecords {D : Type 0} (state : D → State) (j : View D) (h : HeadsValue) : Type 0 where
  pub rest : HasRecords (state j.a) (state j.b) j.durable
  pub length : h.length ≡ end_of (coordinator_state (j.durable ++ j.staged))
  pub kept : h.kept ≡ end_of (coordinator_state j.durable)
  pub horizon : h.horizon ≡ (coordinator_state j.durable).horizon

-- over honest devices these are the numbers of a coordinator
abbrev pub AreHeadsOf : {D : Type 0} → (D → State) → (D → Type 0) → View D → HeadsValue → Type 0
AreHeadsOf state honest j h = honest j.a → honest j.b → CountsRecords state j h
