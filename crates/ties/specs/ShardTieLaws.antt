-- Laws of a shard that is tied: its calls leave it tied, and what it reads is of the list.
use Rattle.std.specs.Prelude.{◌≡◌, ◌≤◌, ◌+◌, true, ℕ, Bool, List, length}
use mathlib.Core.List.{IsPrefix}
use Rattle.refusal.specs.declared.refusal.Refusal.{Refusal}
use Rattle.tuples.specs.declared.entry.Entry.{Entry}
use Rattle.tuples.specs.declared.entry.WriteId.{WriteId}
use Rattle.tuples.specs.declared.object.Userset.{Userset}
use Rattle.tuples.specs.declared.tuple.Tuple.{Tuple}
use Rattle.tuples.specs.declared.tupleset.Tupleset.{Tupleset}
use Rattle.tuples.specs.declared.user.User.{User}
use Rattle.tuples.specs.Reads.{IsSelection}
use Rattle.tuples.specs.Walking.{IsCheckSelection}
use Rattle.device.specs.Device.{State, left}
use Rattle.journal.specs.Records.{HasOldOrNew, LeavesBoth, LeavesEach}
use Rattle.decisions.specs.Values.{BatchValue, TicketValue}
use Rattle.shard.specs.Checkpoints.{ChecksPointAt, HasOldNewOrPoint}
use Rattle.shard.specs.Calls.{CollectsAt, DropsAt, FlushesAt, LearnsAt, PreparesAt, ReadsAt, ReadsForCheckAt}
use Rattle.shard.specs.Shards.{ShardView, memory}
use Rattle.calls.specs.Opening.{ShardComesUp, ShardStaysOut}
use Rattle.calls.specs.Views.{NodeView}
use Rattle.laws.specs.Shards.{there_of}
use Rattle.laws.specs.Worlds.{shard_node}
use Rattle.ties.specs.ShardTies.{IsOpenedShardTied, IsShardTied, IsShardTiedUp, RowsAnywhere}
use Rattle.ties.specs.TellingLaws.{IsBatchOf}

module _ {D : Type 0} (state : D → State) (honest : D → Type 0) (store shards s : ℕ) where
  -- a longer list, and a horizon that was seen later, are as good
  abbrev pub LongerListsStayTied : Type 0
  LongerListsStayTied = (node : NodeView D) (seen longer : List Entry) (low later : ℕ) → IsShardTied state honest store shards s node seen low → IsPrefix seen longer → low ≤ later
      → IsShardTied state honest store shards s node longer later

  -- a shard that is up has devices of which every stop leaves its part of the list
  abbrev pub ShardTiedUpIsTied : Type 0
  ShardTiedUpIsTied = (v : ShardView D) (seen : List Entry) (low : ℕ) → IsShardTiedUp state honest store shards s v seen low → IsOpenedShardTied state honest store shards s v seen low

  -- a prepare changes no row
  abbrev pub PreparesStayTied : Type 0
  PreparesStayTied = (old new : ShardView D) (w : Entry) (t : TicketValue) (seen : List Entry) (low : ℕ) → IsShardTiedUp state honest store shards s old seen low
      → PreparesAt state honest old w t new → IsShardTiedUp state honest store shards s new seen low

  -- nor does a drop
  abbrev pub DropsStayTied : Type 0
  DropsStayTied = (old new : ShardView D) (id : WriteId) (seen : List Entry) (low : ℕ) → IsShardTiedUp state honest store shards s old seen low
      → DropsAt state honest old id new → IsShardTiedUp state honest store shards s new seen low

  -- a batch of the list is learned; if it is known, the shard has all of it
  abbrev pub LearningsStayTied : Type 0
  LearningsStayTied = (old new : ShardView D) (b : BatchValue) (is_known : Bool) (seen : List Entry) (low : ℕ) → IsShardTiedUp state honest store shards s old seen low
      → IsBatchOf seen b → LearnsAt state honest old b is_known new
      → IsShardTiedUp state honest store shards s new seen low × (is_known ≡ true → b.from + length b.writes ≤ (memory new).learned)

  -- rows are collected up to a horizon that was seen
  abbrev pub CollectionsStayTied : Type 0
  CollectionsStayTied = (old new : ShardView D) (horizon : ℕ) (seen : List Entry) (low : ℕ) → IsShardTiedUp state honest store shards s old seen low
      → horizon ≤ low → CollectsAt state honest old horizon new → IsShardTiedUp state honest store shards s new seen low

  -- what was staged is durable
  abbrev pub ShardFlushesStayTied : Type 0
  ShardFlushesStayTied = (old new : ShardView D) (seen : List Entry) (low : ℕ) → IsShardTiedUp state honest store shards s old seen low
      → FlushesAt state honest old new → new.me ≡ old.me → IsShardTiedUp state honest store shards s new seen low

  -- a checkpoint has what the shard knows, and so the same rows of the list
  abbrev pub ShardCheckpointsStayTied : Type 0
  ShardCheckpointsStayTied = (old new : ShardView D) (seen : List Entry) (low : ℕ) → IsShardTiedUp state honest store shards s old seen low
      → ChecksPointAt state honest old new → new.me ≡ old.me → IsShardTiedUp state honest store shards s new seen low

  -- what is read is selected of the list at the place, of the tuples of this shard
  abbrev pub ReadsAreSeen : Type 0
  ReadsAreSeen = (v : ShardView D) (place : ℕ) (q : Tupleset) (rows : List Tuple) (seen : List Entry) (low : ℕ) → IsShardTiedUp state honest store shards s v seen low
      → ReadsAt v place q rows → (place ≤ length seen) × IsSelection (there_of shards s seen place) q rows

  -- so is what a check asks
  abbrev pub CheckReadsAreSeen : Type 0
  CheckReadsAreSeen = (v : ShardView D) (place : ℕ) (x : Userset) (u : User) (rows : List Tuple) (seen : List Entry) (low : ℕ) → IsShardTiedUp state honest store shards s v seen low
      → ReadsForCheckAt v place x u rows → (place ≤ length seen) × IsCheckSelection (there_of shards s seen place) x u rows

module _ {D : Type 0} (state : D → State) (honest : D → Type 0) (moment : D → ℕ) (left_since : D → ℕ → List ℕ → Type 0) (store shards s : ℕ) where
  -- a flush in which a device failed leaves the rows of the list, with what was staged or without
  abbrev pub FailedShardFlushesStayTied : Type 0
  FailedShardFlushesStayTied = (old new : ShardView D) (seen : List Entry) (low : ℕ) → IsShardTiedUp state honest store shards s old seen low
      → new.me ≡ old.me → honest new.a → honest new.b → new.is_down ≡ true → LeavesBoth moment left_since old.a old.b new.a new.b (HasOldOrNew old.durable old.staged)
      → IsOpenedShardTied state honest store shards s new seen low

  -- a checkpoint in which a device failed leaves them too: by the old records, or by its own
  abbrev pub FailedShardCheckpointsStayTied : Type 0
  FailedShardCheckpointsStayTied = (old new : ShardView D) (seen : List Entry) (low : ℕ) → IsShardTiedUp state honest store shards s old seen low
      → new.me ≡ old.me → honest new.a → honest new.b → new.is_down ≡ true → LeavesEach moment left_since old.a old.b new.a new.b (HasOldNewOrPoint old)
      → IsOpenedShardTied state honest store shards s new seen low

  -- an opening over devices that read what a stop may leave of them finds rows of the list
  abbrev pub ShardOpeningsStayTied : Type 0
  ShardOpeningsStayTied = (a b : D) (v : ShardView D) (seen : List Entry) (low : ℕ) → RowsAnywhere state honest shards s a b seen low
      → left (state a) (state a).seen → left (state b) (state b).seen → ShardComesUp state honest moment left_since a b (shard_node store shards s) v
      → IsShardTiedUp state honest store shards s v seen low

  -- and one that is refused leaves them
  abbrev pub RefusedShardOpeningsStayTied : Type 0
  RefusedShardOpeningsStayTied = (a b x y : D) (e : Refusal) (seen : List Entry) (low : ℕ) → RowsAnywhere state honest shards s a b seen low
      → left (state a) (state a).seen → left (state b) (state b).seen → ShardStaysOut state honest moment left_since a b (shard_node store shards s) e x y
      → RowsAnywhere state honest shards s x y seen low
