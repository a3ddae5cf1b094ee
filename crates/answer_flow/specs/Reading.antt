-- The calls of a read, and what each reply makes of it.
use Rattle.std.specs.Prelude.{◌≡◌, ◌⊎◌, ◌≤◌, ◌<◌, ◌+◌, ◌++◌, ◌∷◌, ℕ, List, [], length, Some, None, Result, Ok, Err, slice_get}
use Rattle.refusal.specs.declared.refusal.Refusal.{Refusal}
use Rattle.refusal.specs.declared.refusal.Refusal.TheVariants.{NoMemory}
use Rattle.tuples.specs.declared.tuple.Tuple.{Tuple}
use Rattle.tuples.specs.declared.tupleset.Tupleset.{Tupleset}
use Rattle.tuples.specs.declared.tupleset.Tupleset.TheVariants.{Key, OfObject, OfUser}
use Rattle.tuples.specs.Reads.{AreAscending}
use Rattle.decisions.specs.Flows.{Freshness, ReadHolds, nothing_read}
use Rattle.decisions.specs.Merging.{IsMerged}
use Rattle.decisions.specs.Standing.{HeadsValue}
use Rattle.shard.specs.declared.replies.ReadReply.{ReadReply}
use Rattle.shard.specs.declared.replies.ReadReply.TheVariants.{Rows, Behind}
use Rattle.calls.specs.Asking.{MayBeMade}
use Rattle.calls.specs.declared.call.NodeCall.{NodeCall}
use Rattle.calls.specs.declared.call.NodeCall.TheVariants.{Coordinator, Shard}
use Rattle.calls.specs.declared.call.CoordinatorCall.TheVariants as calls
use Rattle.calls.specs.declared.call.ShardCall.TheVariants as shard_calls
use Rattle.calls.specs.declared.reply.Reply.{Reply}
use Rattle.calls.specs.declared.reply.Reply.TheVariants.{Coordinator as from_coordinator, Shard as from_shard}
use Rattle.calls.specs.declared.reply.CoordinatorReply.TheVariants as told
use Rattle.calls.specs.declared.reply.ShardReply.TheVariants as told_by
use Rattle.catch_up.specs.CatchingUp as catching
use Rattle.catch_up.specs.Held.{Awaited, CatchUpCallValue, CatchUpValue}
use Rattle.catch_up.specs.declared.caught.Progress.{Progress}
use Rattle.catch_up.specs.declared.caught.Progress.TheVariants.{Next, There, Refused}
use Rattle.answer_flow.specs.Finding.{FindsPlace, IsNotKept, IsRefused}
use Rattle.answer_flow.specs.ReadViews.{ReadAwaited, ReadStep, ReadView, at_rest, catch_up, catch_up_call, ended, flush, flush_call, heads, heads_call, read, read_call, refused, selected, shard_for, waiting}

-- A call of the catch-up: of the next tupleset's shard, up to the place. The decisions that it hands over are held no longer.
pub record CatchesUp (shards : ℕ) (sets : List Tupleset) (v : ReadView) (call : NodeCall) (after : ReadView) : Type 0 where
  pub set : Tupleset
  pub next : slice_get sets (length v.holds.done) ≡ Some set
  pub way : CatchUpValue
  pub shard : way.shard ≡ shard_for shards set v.holds.below
  pub to : v.holds.place ≡ Some way.to
  pub batch : way.batch ≡ v.holds.batch
  pub out : CatchUpCallValue
  pub asks : catching.Asks way call out
  pub waits : after ≡ waiting catch_up (catch_up_call out.awaited) (record v.holds { batch = out.held.batch })

-- The read of the next tupleset, at its shard, at the place.
pub record Reads (shards : ℕ) (sets : List Tupleset) (v : ReadView) (call : NodeCall) (after : ReadView) : Type 0 where
  pub set : Tupleset
  pub next : slice_get sets (length v.holds.done) ≡ Some set
  pub place : ℕ
  pub at_place : v.holds.place ≡ Some place
  pub call_is : call ≡ Shard (shard_for shards set v.holds.below) (shard_calls.Read place set)
  pub waits : after ≡ waiting read read_call v.holds

-- the call of each step
abbrev pub AsksFor : ReadStep → ℕ → List Tupleset → ReadView → NodeCall → ReadView → Type 0
AsksFor heads shards sets v call after = (call ≡ Coordinator calls.Heads) × (after ≡ waiting heads heads_call v.holds)
AsksFor flush shards sets v call after = (call ≡ Coordinator calls.Flush) × (after ≡ waiting flush flush_call v.holds)
AsksFor catch_up shards sets v call after = CatchesUp shards sets v call after
AsksFor read shards sets v call after = Reads shards sets v call after

-- Which call is made next. What a node is owed is kept.
pub record Asks (shards : ℕ) (sets : List Tupleset) (v : ReadView) (call : NodeCall) (after : ReadView) : Type 0 where
  pub owed : MayBeMade shards call
  pub asks : AsksFor v.next shards sets v call after

-- memory was refused
abbrev pub LacksMemory : ReadView → Type 0
LacksMemory after = after ≡ ended (refused NoMemory)

-- it goes on to the next tupleset; after the last one it ends
pub record Continues (sets : List Tupleset) (place : ℕ) (h : ReadHolds) (after : ReadView) : Type 0 where
  pub more : length h.done < length sets → (after ≡ at_rest catch_up h) ⊎ LacksMemory after
  pub last : length sets ≤ length h.done → after ≡ ended (selected place h.done)

-- the heads tell the place, or that it is not kept yet, or that it is refused
abbrev pub HeadsGive : Freshness → List Tupleset → Result HeadsValue Refusal → ReadView → Type 0
HeadsGive fresh sets (Ok v) after = ((place : ℕ) × FindsPlace fresh v place × Continues sets place (record nothing_read { place = Some place }) after)
    ⊎ ((IsNotKept fresh v × (after ≡ at_rest flush nothing_read)) ⊎ ((e : Refusal) × IsRefused fresh v e × (after ≡ ended (refused e))))
HeadsGive fresh sets (Err e) after = after ≡ ended (refused e)

-- after a flush it asks for heads again
abbrev pub FlushGives : Result (Unit {0}) Refusal → ReadView → Type 0
FlushGives (Ok done) after = after ≡ at_rest heads nothing_read
FlushGives (Err e) after = after ≡ ended (refused e)

-- what progress of the catch-up makes of it
abbrev pub ProgressGives : ReadView → Progress → ReadView → Type 0
ProgressGives v (Next c) after = after ≡ at_rest catch_up (record v.holds { batch = c.batch })
ProgressGives v There after = after ≡ at_rest read (record v.holds { batch = None })
ProgressGives v (Refused e) after = after ≡ ended (refused e)

-- The reply belongs to the catch-up of the shard.
pub record CatchUpGives (v : ReadView) (awaited : Awaited) (reply : Reply) (after : ReadView) : Type 0 where
  pub call : CatchUpCallValue
  pub is_awaited : call.awaited ≡ awaited
  pub to : v.holds.place ≡ Some call.held.to
  pub holds : call.held.batch ≡ v.holds.batch
  pub progress : Progress
  pub gives : catching.Gives call reply progress
  pub then_gives : ProgressGives v progress after

-- It stays as it is; or the shard reads before it is asked how far it has learned, as if it has told that it is there.
abbrev pub HastensRead : ReadView → ReadView → Type 0
HastensRead v after = (after ≡ v) ⊎ (after ≡ at_rest read (record v.holds { batch = None }))

-- the tupleset is done with these rows
abbrev pub Finishes : List Tupleset → ℕ → ReadHolds → List Tuple → ReadView → Type 0
Finishes sets place h rows after = LacksMemory after ⊎ Continues sets place (record h { done = h.done ++ rows ∷ []; below = 0; rows = [] }) after

-- The rows of one shard more are merged with the others, and after the last shard the tupleset is done.
pub record Merges (shards : ℕ) (sets : List Tupleset) (place : ℕ) (h : ReadHolds) (more : List Tuple) (after : ReadView) : Type 0 where
  pub merged : List Tuple
  pub is_merged : AreAscending h.rows → AreAscending more → IsMerged h.rows more merged
  pub next : h.below + 1 < shards → after ≡ at_rest catch_up (record h { below = h.below + 1; rows = merged })
  pub last : shards ≤ h.below + 1 → Finishes sets place h merged after

-- what the rows of a shard make of it: those of its object's shard are all
abbrev pub RowsGive : ℕ → List Tupleset → ℕ → ReadHolds → Tupleset → List Tuple → ReadView → Type 0
RowsGive shards sets place h (Key t) more after = Finishes sets place h more after
RowsGive shards sets place h (OfObject o relation) more after = Finishes sets place h more after
RowsGive shards sets place h (OfUser n u relation) more after = LacksMemory after ⊎ Merges shards sets place h more after

-- the shard has read; if it has not learned so far it is brought up to the place once more
abbrev pub ReadGives : ℕ → List Tupleset → ReadView → Tupleset → Result ReadReply Refusal → ReadView → Type 0
ReadGives shards sets v set (Ok (Rows more)) after = (place : ℕ) → v.holds.place ≡ Some place → RowsGive shards sets place v.holds set more.items after
ReadGives shards sets v set (Ok Behind) after = after ≡ at_rest catch_up v.holds
ReadGives shards sets v set (Err e) after = after ≡ ended (refused e)

-- What a reply makes of a read that waits for it.
abbrev pub GivesTo : ℕ → Freshness → List Tupleset → ReadView → ReadAwaited → Reply → ReadView → Type 0
GivesTo shards fresh sets v heads_call (from_coordinator (told.Heads r)) after = HeadsGive fresh sets r after
GivesTo shards fresh sets v flush_call (from_coordinator (told.Flush r)) after = FlushGives r after
GivesTo shards fresh sets v (catch_up_call awaited) reply after = CatchUpGives v awaited reply after
GivesTo shards fresh sets v read_call (from_shard (told_by.Read set r)) after = ReadGives shards sets v set r after
GivesTo shards fresh sets v awaited reply after = ⊥

-- the reply is one to the call that is out, and gives the tupleset back
abbrev pub Fits : List Tupleset → ReadView → ReadAwaited → Reply → Type 0
Fits sets v heads_call (from_coordinator (told.Heads r)) = Unit {0}
Fits sets v flush_call (from_coordinator (told.Flush r)) = Unit {0}
Fits sets v (catch_up_call awaited) reply = catching.Fits awaited reply
Fits sets v read_call (from_shard (told_by.Read set r)) = slice_get sets (length v.holds.done) ≡ Some set
Fits sets v awaited reply = ⊥
