-- Laws of reads: what shards answer, one after another, is what a tupleset selects of the whole store at one place.
use Rattle.std.specs.Prelude.{◌≡◌, ◌≤◌, ◌<◌, ◌+◌, ℕ, List, [], ◌∷◌, ◌++◌, length, Some, None, slice_get}
use Rattle.tuples.specs.declared.entry.Entry.{Entry}
use Rattle.tuples.specs.declared.tuple.Tuple.{Tuple}
use Rattle.tuples.specs.declared.tupleset.Tupleset.{Tupleset}
use Rattle.tuples.specs.Log.{is_at}
use Rattle.tuples.specs.Reads.{IsSelection}
use Rattle.tuples.specs.Versions.{there_at}
use Rattle.records.specs.declared.record.Record.{Record}
use Rattle.records.specs.Replays.{ShardState}
pub use Rattle.decisions.specs.Merging.{IsMerged, NeedsOnly}
use Rattle.laws.specs.Shards.{ShardMeans}
pub use Rattle.laws.specs.Shards.{there_of}
use Rattle.laws.specs.Worlds.{IsLog}
use Rattle.laws.specs.Nodes.{NodeName, ShardKnows, coordinator}
use Rattle.stores.specs.Flows.{Freshness, ReadHolds}
use Rattle.stores.specs.Held.{IsRightRead}
use Rattle.stores.specs.Moments.{Moment, Running}
use Rattle.stores.specs.Replies.{IsPlaceOf, IsReadAnswer}
use Rattle.stores.specs.Stands.{Stands}

-- a shard's rows show at each place from its horizon up to what it has learned which of its own tuples were there, and no others
abbrev pub ShardRowsShowSnapshots : Type 0
ShardRowsShowSnapshots = (shards s : ℕ) (log : List Entry) (hc h : ℕ) (state : ShardState) (place : ℕ) (t : Tuple) → IsLog log → ShardMeans shards s log hc h state
    → state.horizon ≤ place → place ≤ state.learned → there_at state.rows place t ≡ there_of shards s log place t

-- what is selected of that shard's tuples is what is selected of all
abbrev pub OneShardIsEnough : Type 0
OneShardIsEnough = (shards s : ℕ) (log : List Entry) (place : ℕ) (q : Tupleset) (rows : List Tuple) → NeedsOnly shards q s
    → IsSelection (there_of shards s log place) q rows → IsSelection (is_at log place) q rows

-- a shard that is up selects rows at a place that it has learned, and that is not below its horizon
pub record IsShardReply (now : Moment) (s place : ℕ) (q : Tupleset) (rows : List Tuple) : Type 0 where
  pub memory : ShardState
  pub knows : ShardKnows now.nodes s memory
  pub learned : place ≤ memory.learned
  pub above : memory.horizon ≤ place
  pub selected : IsSelection (there_at memory.rows place) q rows

-- a read at this place that asks for the rows of this tupleset next
pub record IsReading (sets : List Tupleset) (h : ReadHolds) (place : ℕ) (q : Tupleset) : Type 0 where
  pub at_place : h.place ≡ Some place
  pub next : slice_get sets (length h.done) ≡ Some q

-- The store has this id and this many shards, and a stop may leave this of each node, except for what is staged.
module _ (store shards : ℕ) (left : NodeName → List Record → Type 0) where
  -- a shard's answer at a kept place is what the tupleset selects of its tuples; a stop leaves some records of the coordinator
  abbrev pub RepliesSelect : Type 0
  RepliesSelect = (now : Moment) (s place : ℕ) (q : Tupleset) (rows : List Tuple) → Stands store shards left now
      → ((found : List Record) × left coordinator found) → s < shards → place ≤ now.machine.kept → IsShardReply now s place q rows
      → IsSelection (there_of shards s now.machine.log place) q rows

  -- a read that finds its place holds what is right
  abbrev pub ReadsBegin : Type 0
  ReadsBegin = (now : Moment) (r : Running) (fresh : Freshness) (sets : List Tupleset) (h : ReadHolds) (place : ℕ) → IsRightRead shards left now r fresh sets h → h.place ≡ None
      → IsPlaceOf fresh r now.machine place → IsRightRead shards left now r fresh sets (record h { place = Some place })

  -- with the answer of the next shard a read holds what is right
  abbrev pub ReadsGoOn : Type 0
  ReadsGoOn = (now : Moment) (r : Running) (fresh : Freshness) (sets : List Tupleset) (h : ReadHolds) (place : ℕ) (q : Tupleset) (more merged : List Tuple)
      → IsRightRead shards left now r fresh sets h → IsReading sets h place q
      → IsSelection (there_of shards h.below now.machine.log place) q more → IsMerged h.rows more merged
      → IsRightRead shards left now r fresh sets (record h { below = h.below + 1; rows = merged })

  -- the rows of all shards are those of the tupleset
  abbrev pub ReadsAskAll : Type 0
  ReadsAskAll = (now : Moment) (r : Running) (fresh : Freshness) (sets : List Tupleset) (h : ReadHolds) (place : ℕ) (q : Tupleset) → 1 ≤ shards
      → IsRightRead shards left now r fresh sets h → IsReading sets h place q → h.below ≡ shards
      → IsSelection (is_at now.machine.log place) q h.rows

  -- a tupleset that is done leaves a read holding what is right
  abbrev pub ReadsFinishOne : Type 0
  ReadsFinishOne = (now : Moment) (r : Running) (fresh : Freshness) (sets : List Tupleset) (h : ReadHolds) (place : ℕ) (q : Tupleset) (rows : List Tuple)
      → IsRightRead shards left now r fresh sets h → IsReading sets h place q → IsSelection (is_at now.machine.log place) q rows
      → IsRightRead shards left now r fresh sets (record h { done = h.done ++ rows ∷ []; below = 0; rows = [] })

  -- a read that has done all its tuplesets answers what agrees
  abbrev pub ReadsAgree : Type 0
  ReadsAgree = (now : Moment) (r : Running) (fresh : Freshness) (sets : List Tupleset) (h : ReadHolds) (place : ℕ)
      → IsRightRead shards left now r fresh sets h → h.place ≡ Some place → length h.done ≡ length sets
      → IsReadAnswer fresh sets r now.machine place h.done
