-- A coordinator as its callers see it, and what each of its calls does, in terms of lists of records alone: what stops leave, locks and logs
-- are the callers' matter.
use Rattle.std.specs.Prelude.{◌≡◌, ◌≢◌, ◌⊎◌, ◌≤◌, ◌<◌, ◌+◌, ◌-◌, ℕ, min, Bool, false, true, List, [], ◌∷◌, ◌++◌, length, take, drop, All, AllPairs, Some, Contains, if◌then◌else◌, slice_get}
use Rattle.refusal.specs.Refusals.{IsOneOf}
use Rattle.tuples.specs.Limits.{max_batch, max_open}
use Rattle.tuples.specs.declared.change.Change.{Change}
use Rattle.tuples.specs.declared.change.Condition.{Condition}
use Rattle.tuples.specs.declared.change.Want.TheVariants.{NotAfter}
use Rattle.tuples.specs.declared.entry.Entry.{Entry}
use Rattle.tuples.specs.declared.entry.WriteId.{WriteId}
use Rattle.refusal.specs.declared.refusal.Refusal.{Refusal}
use Rattle.refusal.specs.declared.refusal.Refusal.TheVariants.{Collected, Full, Future, NoMemory}
use Rattle.tuples.specs.Log.{same_id}
use Rattle.tuples.specs.Parts.{takes_part}
use Rattle.records.specs.declared.record.Record.{Record}
use Rattle.records.specs.declared.record.Record.TheVariants.{Decision, Epoch, Horizon}
use Rattle.records.specs.Coordinators.{CoordinatorState, IsCoordinatorImage, coordinator_state, end_of}
use Rattle.records.specs.Replays.{Identity, greatest_number}
use Rattle.device.specs.Device.{State}
use Rattle.journal.specs.Records.{HasNoRoom, HasRecords, View, WasLeftOrFound, found}
use Rattle.decisions.specs.Standing.{DecidedValue}
use Rattle.decisions.specs.Values.{BatchValue, HeadsValue, IntentValue, IsIntent, SettledValue, VoteValue}

-- A coordinator over two devices: where the list of the current bank ends, what is durable, what is staged, whether a device failed since the opening, which node of which store it is;
-- and what lies in its memory alone: the ids of its open writes, newest first, and the last number that it gave.
pub record CoordinatorView (D : Type 0) : Type 0 where
  pub a : D
  pub b : D
  pub end : ℕ
  pub durable : List Record
  pub staged : List Record
  pub is_down : Bool
  pub me : Identity
  pub open_ids : List WriteId
  pub given : ℕ

-- what its durable records stand for
abbrev pub kept_of : {D : Type 0} → CoordinatorView D → CoordinatorState
kept_of v = coordinator_state v.durable

-- what it knows: the replay of its durable and staged records
abbrev pub memory_of : {D : Type 0} → CoordinatorView D → CoordinatorState
memory_of v = coordinator_state (v.durable ++ v.staged)

-- the coordinator's journal
abbrev pub coordinator_journal : {D : Type 0} → CoordinatorView D → View D
coordinator_journal v = record { a = v.a; b = v.b; end = v.end; durable = v.durable; staged = v.staged; is_down = v.is_down }

-- Up, over honest devices, each stop leaving the durable records. That its records are a coordinator's is no part of it: their conditions are a
-- matter of the whole store.
pub record IsRunning {D : Type 0} (state : D → State) (honest : D → Type 0) (v : CoordinatorView D) : Type 0 where
  pub honest_a : honest v.a
  pub honest_b : honest v.b
  pub up : v.is_down ≡ false
  pub rest : HasRecords (state v.a) (state v.b) v.durable

-- one more record is staged, and nothing else is changed
abbrev pub StagesOne : {D : Type 0} → CoordinatorView D → Record → CoordinatorView D → Type 0
StagesOne old r new = new ≡ record old { staged = old.staged ++ r ∷ [] }

-- the ids but this one
abbrev pub without_id : WriteId → List WriteId → List WriteId
without_id id [] = []
without_id id (x ∷ xs) = if same_id x id then without_id id xs else x ∷ without_id id xs

-- the id of the next write that is begun
abbrev pub next_id : {D : Type 0} → CoordinatorView D → WriteId
next_id v = record { epoch = (memory_of v).epoch; number = v.given + 1 }

-- the condition names a place after the last decision, staged ones included
abbrev pub NamesFuture : {D : Type 0} → CoordinatorView D → Condition → Type 0
NamesFuture v c = (place : ℕ) × (c.want ≡ NotAfter place) × (end_of (memory_of v) < place)

-- the condition names a place below the durable horizon
abbrev pub NamesCollected : {D : Type 0} → CoordinatorView D → Condition → Type 0
NamesCollected v c = (place : ℕ) × (c.want ≡ NotAfter place) × (place < (kept_of v).horizon)

-- the condition names no place, or one that can be looked at
pub record IsInRange {D : Type 0} (v : CoordinatorView D) (c : Condition) : Type 0 where
  pub no_future : NamesFuture v c → ⊥
  pub not_collected : NamesCollected v c → ⊥

-- the first of these conditions that is not in range is so
pub record FirstIs {D : Type 0} (v : CoordinatorView D) (conditions : List Condition) (P : Condition → Type 0) : Type 0 where
  pub index : ℕ
  pub condition : Condition
  pub there : slice_get conditions index ≡ Some condition
  pub is : P condition
  pub before : (i : ℕ) (c : Condition) → i < index → slice_get conditions i ≡ Some c → IsInRange v c

-- no more writes may be open, or no number is left to give
abbrev pub HasNoId : {D : Type 0} → CoordinatorView D → Type 0
HasNoId v = (max_open ≤ length v.open_ids) ⊎ (greatest_number ≤ v.given)

-- A write is begun: it has the next id and is open, and it knows how far the durable decisions reach.
pub record BeginsAt {D : Type 0} (old : CoordinatorView D) (changes : List Change) (conditions : List Condition) (i : IntentValue) (new : CoordinatorView D) : Type 0 where
  pub was_up : old.is_down ≡ false
  pub in_range : All (IsInRange old) conditions
  pub has_id : HasNoId old → ⊥
  pub write : i.write ≡ record { id = next_id old; changes = changes; conditions = conditions }
  pub kept : i.kept ≡ end_of (kept_of old)
  pub new_is : new ≡ record old { open_ids = next_id old ∷ old.open_ids; given = old.given + 1 }

-- A write is not begun by a coordinator that is up: a condition is out of range, the first that is so; or a limit is met; or there is no memory.
pub record BeginsRefused {D : Type 0} (old : CoordinatorView D) (conditions : List Condition) (e : Refusal) : Type 0 where
  pub future : e ≡ Future → FirstIs old conditions (NamesFuture old)
  pub collected : e ≡ Collected → FirstIs old conditions (NamesCollected old)
  pub full : e ≡ Full → HasNoId old
  pub others : IsOneOf e (Future ∷ Collected ∷ Full ∷ NoMemory ∷ [])

-- a vote for the write, of a shard that takes part in it
pub record IsVoteFor (shards : ℕ) (w : Entry) (v : VoteValue) : Type 0 where
  pub id : v.id ≡ w.id
  pub shard : v.shard < shards
  pub participant : takes_part shards v.shard w ≡ true

-- Exactly one vote of each participant: each of them has voted for the write, there is no other vote, and no shard voted twice.
pub record HaveVoted (shards : ℕ) (w : Entry) (votes : List VoteValue) : Type 0 where
  pub each : (s : ℕ) → s < shards → takes_part shards s w ≡ true → (v : VoteValue) × Contains votes v × (v.shard ≡ s)
  pub own : All (IsVoteFor shards w) votes
  pub once : AllPairs (λ (v u : VoteValue). v.shard ≢ u.shard) votes

-- A write is decided: it was open, and stands at the next place. Its conditions are those that the shards tested: none is looked at here.
pub record DecidesAt {D : Type 0} (old : CoordinatorView D) (w : Entry) (d : DecidedValue) (new : CoordinatorView D) : Type 0 where
  pub was_up : old.is_down ≡ false
  pub is_open : Contains old.open_ids w.id
  pub whole : IsIntent w
  pub own_epoch : w.id.epoch ≡ (memory_of old).epoch
  pub place : d.place ≡ end_of (memory_of old) + 1
  pub place_fits : d.place ≤ greatest_number
  pub epoch : d.epoch ≡ (memory_of old).epoch
  pub new_is : new ≡ record old { staged = old.staged ++ Decision d.place w ∷ []; open_ids = without_id w.id old.open_ids }

-- a decision of the write has no room, or no place
abbrev pub HasNoPlace : {D : Type 0} → CoordinatorView D → Entry → Type 0
HasNoPlace v w = HasNoRoom v.staged (Decision (end_of (memory_of v) + 1) w) ⊎ (greatest_number ≤ end_of (memory_of v))

-- what was staged is durable, and nothing else is changed but the devices
pub record FlushesAll {D : Type 0} (old new : CoordinatorView D) : Type 0 where
  pub durable : new.durable ≡ old.durable ++ old.staged
  pub staged : new.staged ≡ []
  pub is_up : new.is_down ≡ false

-- what lies in memory alone, and which node it is, stay the same, whatever became of the records
pub record KeepsOpen {D : Type 0} (old new : CoordinatorView D) : Type 0 where
  pub me : new.me ≡ old.me
  pub open_ids : new.open_ids ≡ old.open_ids
  pub given : new.given ≡ old.given

-- a decision of this epoch of a coordinator that is up
pub record IsOfNow {D : Type 0} (v : CoordinatorView D) (d : DecidedValue) : Type 0 where
  pub is_up : v.is_down ≡ false
  pub epoch : d.epoch ≡ (memory_of v).epoch

-- a decision is durable
pub record IsKeptBy {D : Type 0} (v : CoordinatorView D) (d : DecidedValue) : Type 0 where
  pub now : IsOfNow v d
  pub reached : d.place ≤ end_of (kept_of v)

-- a decision is staged
pub record IsStagedBy {D : Type 0} (v : CoordinatorView D) (d : DecidedValue) : Type 0 where
  pub now : IsOfNow v d
  pub behind : end_of (kept_of v) < d.place

-- a write is aborted: it is open no longer
pub record AbortsAt {D : Type 0} (old : CoordinatorView D) (id : WriteId) (new : CoordinatorView D) : Type 0 where
  pub was_up : old.is_down ≡ false
  pub new_is : new ≡ record old { open_ids = without_id id old.open_ids }

-- a decision that it knows, durable or staged, has the id, and stands above the durable horizon
abbrev pub IsDecidedAbove : {D : Type 0} → CoordinatorView D → WriteId → Type 0
IsDecidedAbove v id = (j : ℕ) × (w : Entry) × (slice_get (memory_of v).log j ≡ Some w) × (w.id ≡ id) × ((kept_of v).horizon < (memory_of v).base + j + 1)

-- an id that it gave: in an earlier epoch, or in this one as the last or before
abbrev pub IsGivenAt : {D : Type 0} → CoordinatorView D → WriteId → Type 0
IsGivenAt v id = (id.epoch < (memory_of v).epoch) ⊎ ((id.epoch ≡ (memory_of v).epoch) × (id.number ≤ v.given))

-- asked about an id, it finds a durable decision at this place, above the horizon
pub record FindsAt {D : Type 0} (v : CoordinatorView D) (id : WriteId) (place : ℕ) : Type 0 where
  pub is_up : v.is_down ≡ false
  pub index : ℕ
  pub write : Entry
  pub there : slice_get (kept_of v).log index ≡ Some write
  pub own : write.id ≡ id
  pub place_is : place ≡ (kept_of v).base + index + 1
  pub above : (kept_of v).horizon < place

-- asked about an id that it gave, it finds no decision above the horizon, and no open write
pub record FindsNone {D : Type 0} (v : CoordinatorView D) (id : WriteId) : Type 0 where
  pub is_up : v.is_down ≡ false
  pub given : IsGivenAt v id
  pub closed : Contains v.open_ids id → ⊥
  pub none : IsDecidedAbove v id → ⊥

-- asked about an id, it finds an open write, a decision that is staged, or an id that it never gave
pub record FindsNothingYet {D : Type 0} (v : CoordinatorView D) (id : WriteId) : Type 0 where
  pub is_up : v.is_down ≡ false
  pub not_kept : (place : ℕ) → FindsAt v id place → ⊥
  pub not_aborted : FindsNone v id → ⊥

-- the durable decisions after a place, up to another, at most those of one batch
pub record BatchesAt {D : Type 0} (v : CoordinatorView D) (from to : ℕ) (b : BatchValue) : Type 0 where
  pub is_up : v.is_down ≡ false
  pub above : (kept_of v).horizon ≤ from
  pub within : to ≤ end_of (kept_of v)
  pub from_is : b.from ≡ from
  pub writes : b.writes ≡ take (min (to - from) max_batch) (drop (from - (kept_of v).base) (kept_of v).log)

-- the three numbers of a coordinator that is up
abbrev pub heads_of : {D : Type 0} → CoordinatorView D → HeadsValue
heads_of v = record { length = end_of (memory_of v); kept = end_of (kept_of v); horizon = (kept_of v).horizon }

-- each shard has settled up to the place
abbrev pub HaveSettled : ℕ → ℕ → List SettledValue → Type 0
HaveSettled shards place settled = (s : ℕ) → s < shards → (x : SettledValue) × Contains settled x × (x.shard ≡ s) × (place ≤ x.place)

-- a staged record raises the horizon to a place at or above this one
abbrev pub IsRising : {D : Type 0} → CoordinatorView D → ℕ → Type 0
IsRising v place = (x : ℕ) × Contains v.staged (Horizon x) × (place ≤ x)

-- The horizon is raised to a place of the log: by one more record, or by one that is staged.
pub record RaisesAt {D : Type 0} (old : CoordinatorView D) (place : ℕ) (new : CoordinatorView D) : Type 0 where
  pub was_up : old.is_down ≡ false
  pub above : (kept_of old).horizon ≤ place
  pub within : place ≤ end_of (memory_of old)
  pub new_is : ((IsRising old place → ⊥) × StagesOne old (Horizon place) new) ⊎ (IsRising old place × (new ≡ old))

-- the record of an opening
abbrev pub coordinator_opening : Identity → List Record → Record
coordinator_opening me rs = Epoch ((coordinator_state rs).epoch + 1) me.store me.shards me.node

-- A coordinator was opened over devices that held these records: they are a coordinator's, one more opening is durable, and no write is open.
pub record IsOpenedCoordinator {D : Type 0} (state : D → State) (honest : D → Type 0) (a b : D) (me : Identity) (new : CoordinatorView D) : Type 0 where
  pub rs : List Record
  pub was : found (state a).seen (state b).seen ≡ Some rs
  pub image : IsCoordinatorImage me rs
  pub durable : new.durable ≡ rs ++ coordinator_opening me rs ∷ []
  pub running : IsRunning state honest new

-- at a moment of an opening the contents have the records of some that could be left before it, or those found with the opening's
abbrev pub WasLeftOrReopened : Identity → State → State → List ℕ → List ℕ → Type 0
WasLeftOrReopened me sa sb x y = WasLeftOrFound sa sb x y
    ⊎ ((rs : List Record) × (found sa.seen sb.seen ≡ Some rs) × IsCoordinatorImage me (rs ++ coordinator_opening me rs ∷ []) × (found x y ≡ Some (rs ++ coordinator_opening me rs ∷ [])))
