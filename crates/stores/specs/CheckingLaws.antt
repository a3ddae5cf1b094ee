-- Laws of checks: what a shard answers of one userset, what a check holds after it, and what it answers.
use Rattle.std.specs.Prelude.{◌≡◌, ◌≤◌, ◌<◌, ℕ, true, false, List, [], length, Some, None, Contains}
use Rattle.tuples.specs.Limits.{max_walked}
use Rattle.refusal.specs.declared.refusal.Refusal.TheVariants.{Full}
use Rattle.tuples.specs.declared.object.Userset.{Userset}
use Rattle.tuples.specs.declared.tuple.Tuple.{Tuple}
use Rattle.tuples.specs.declared.user.User.{User}
use Rattle.tuples.specs.Checking.{holding}
use Rattle.tuples.specs.Log.{is_at}
use Rattle.tuples.specs.Parts.{shard_of}
use Rattle.tuples.specs.Versions.{there_at}
use Rattle.tuples.specs.Walking.{IsCheckSelection}
use Rattle.records.specs.declared.record.Record.{Record}
use Rattle.records.specs.Replays.{ShardState}
use Rattle.laws.specs.Nodes.{NodeName, ShardKnows, coordinator}
pub use Rattle.decisions.specs.Walks.{IsOneMore, Walks}
use Rattle.stores.specs.Causes.{IsCause}
use Rattle.stores.specs.Flows.{CheckHolds, Freshness, place_of, to_check}
use Rattle.stores.specs.Held.{IsRightCheck}
use Rattle.stores.specs.Moments.{Moment, Running}
use Rattle.stores.specs.Replies.{IsCheckAnswer, IsPlaceOf}
use Rattle.stores.specs.Stands.{Stands}

-- a shard that is up selects what a check asks of a userset, at a place that it has learned, and that is not below its horizon
pub record IsCheckReply (now : Moment) (s place : ℕ) (y : Userset) (u : User) (rows : List Tuple) : Type 0 where
  pub memory : ShardState
  pub knows : ShardKnows now.nodes s memory
  pub learned : place ≤ memory.learned
  pub above : memory.horizon ≤ place
  pub selected : IsCheckSelection (there_at memory.rows place) y u rows

-- The store has this id and this many shards, and a stop may leave this of each node, except for what is staged. Of the premises, that the store stands,
-- and that a stop leaves some records of the coordinator, are the store's; the shard's answer is the call's; what a check holds, what it makes of an
-- answer, and where it goes, are the flow's.
module _ (store shards : ℕ) (left : NodeName → List Record → Type 0) where
  -- what the userset's own shard answers at a kept place is what a check asks of the whole store
  abbrev pub CheckRepliesSelect : Type 0
  CheckRepliesSelect = (now : Moment) (s place : ℕ) (y : Userset) (u : User) (rows : List Tuple) → Stands store shards left now → ((found : List Record) × left coordinator found)
      → s < shards → s ≡ shard_of shards y.object → place ≤ now.machine.kept → IsCheckReply now s place y u rows
      → IsCheckSelection (is_at now.machine.log place) y u rows

  -- a check that finds its place holds what is right
  abbrev pub ChecksBegin : Type 0
  ChecksBegin = (now : Moment) (r : Running) (fresh : Freshness) (x : Userset) (u : User) (h : CheckHolds) (place : ℕ) → IsRightCheck shards left now r fresh x u h → h.place ≡ None
      → IsPlaceOf fresh r now.machine place → IsRightCheck shards left now r fresh x u (record h { place = Some place })

  -- a check that has walked one more userset, which does not hold the user, holds what is right
  abbrev pub ChecksGoOn : Type 0
  ChecksGoOn = (now : Moment) (r : Running) (fresh : Freshness) (x : Userset) (u : User) (h next : CheckHolds) (place : ℕ) (y : Userset) (rows : List Tuple)
      → IsRightCheck shards left now r fresh x u h → h.place ≡ Some place → Walks y rows h next
      → IsCheckSelection (is_at now.machine.log place) y u rows → (Contains rows (holding y u) → ⊥) → IsRightCheck shards left now r fresh x u next

  -- if a waiting userset holds the user, yes agrees
  abbrev pub ChecksSayYes : Type 0
  ChecksSayYes = (now : Moment) (r : Running) (fresh : Freshness) (x : Userset) (u : User) (h : CheckHolds) (place : ℕ) (y : Userset) (rows : List Tuple)
      → IsRightCheck shards left now r fresh x u h → h.place ≡ Some place → Contains h.waiting y
      → IsCheckSelection (is_at now.machine.log place) y u rows → Contains rows (holding y u) → IsCheckAnswer fresh x u r now.machine place true

  -- if none waits, no agrees
  abbrev pub ChecksSayNo : Type 0
  ChecksSayNo = (now : Moment) (r : Running) (fresh : Freshness) (x : Userset) (u : User) (h : CheckHolds) (place : ℕ)
      → IsRightCheck shards left now r fresh x u h → h.place ≡ Some place → h.waiting ≡ [] → IsCheckAnswer fresh x u r now.machine place false

  -- if as many were walked as may be, and one still waits, Full has its cause, whichever node was called
  abbrev pub FullChecksHaveCause : Type 0
  FullChecksHaveCause = (n : NodeName) (now after : Moment) (r : Running) (fresh : Freshness) (x : Userset) (u : User) (h : CheckHolds) (place : ℕ) (y : Userset) → r.asked ≡ to_check fresh x u
      → place_of r.holds ≡ Some place → IsRightCheck shards left now r fresh x u h → h.place ≡ Some place → max_walked ≤ length h.walked → Contains h.waiting y → IsCause shards n now after r Full
