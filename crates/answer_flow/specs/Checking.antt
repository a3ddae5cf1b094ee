-- The calls of a check, and what each reply makes of it.
use Rattle.std.specs.Prelude.{◌≡◌, ◌≢◌, ◌⊎◌, ◌≤◌, ◌<◌, ◌++◌, ◌∷◌, ℕ, true, false, List, [], length, Some, None, Result, Ok, Err, Contains, slice_get}
use Rattle.tuples.specs.Limits.{max_walked}
use Rattle.refusal.specs.declared.refusal.Refusal.{Refusal}
use Rattle.refusal.specs.declared.refusal.Refusal.TheVariants.{Full, NoMemory}
use Rattle.tuples.specs.declared.object.Userset.{Userset}
use Rattle.tuples.specs.declared.tuple.Tuple.{Tuple}
use Rattle.tuples.specs.declared.user.User.{User}
use Rattle.tuples.specs.Checking.{holding}
use Rattle.tuples.specs.Parts.{shard_of}
use Rattle.decisions.specs.Flows.{CheckHolds, Freshness}
use Rattle.decisions.specs.Standing.{HeadsValue}
use Rattle.decisions.specs.Walks.{Walks}
use Rattle.shard.specs.declared.replies.ReadReply.{ReadReply}
use Rattle.shard.specs.declared.replies.ReadReply.TheVariants.{Rows, Behind}
use Rattle.calls.specs.Asking.{MayBeMade}
use Rattle.calls.specs.declared.call.NodeCall.{NodeCall}
use Rattle.calls.specs.declared.call.NodeCall.TheVariants.{Coordinator, Shard}
use Rattle.calls.specs.declared.call.CoordinatorCall.TheVariants as calls
use Rattle.calls.specs.declared.call.ShardCall.TheVariants as shard_calls
use Rattle.calls.specs.declared.reply.Reply.{Reply}
use Rattle.calls.specs.declared.reply.Reply.TheVariants.{Coordinator as from_coordinator, Shard as from_shard}
use Rattle.calls.specs.declared.reply.CoordinatorReply.TheVariants as told
use Rattle.calls.specs.declared.reply.ShardReply.TheVariants as told_by
use Rattle.catch_up.specs.CatchingUp as catching
use Rattle.catch_up.specs.Held.{Awaited, CatchUpCallValue, CatchUpValue}
use Rattle.catch_up.specs.declared.caught.Progress.{Progress}
use Rattle.catch_up.specs.declared.caught.Progress.TheVariants.{Next, There, Refused}
use Rattle.answer_flow.specs.Finding.{FindsPlace, IsNotKept, IsRefused}
use Rattle.answer_flow.specs.CheckViews.{CheckAwaited, CheckStep, CheckView, at_rest, catch_up, catch_up_call, checked, ended, flush, flush_call, heads, heads_call, read, read_call, refused, waiting}

-- A call of the catch-up: of the shard of the first userset that waits, up to the place. The decisions that it hands over are held no longer.
pub record CatchesUp (shards : ℕ) (v : CheckView) (call : NodeCall) (after : CheckView) : Type 0 where
  pub first : Userset
  pub is_first : slice_get v.holds.waiting 0 ≡ Some first
  pub way : CatchUpValue
  pub shard : way.shard ≡ shard_of shards first.object
  pub to : v.holds.place ≡ Some way.to
  pub batch : way.batch ≡ v.holds.batch
  pub out : CatchUpCallValue
  pub asks : catching.Asks way call out
  pub waits : after ≡ waiting catch_up (catch_up_call out.awaited) (record v.holds { batch = out.held.batch })

-- The read of the first userset that waits, about the user, at its shard, at the place.
pub record Reads (shards : ℕ) (user : User) (v : CheckView) (call : NodeCall) (after : CheckView) : Type 0 where
  pub first : Userset
  pub is_first : slice_get v.holds.waiting 0 ≡ Some first
  pub place : ℕ
  pub at_place : v.holds.place ≡ Some place
  pub call_is : call ≡ Shard (shard_of shards first.object) (shard_calls.ReadForCheck place first user)
  pub waits : after ≡ waiting read read_call v.holds

-- the call of each step: heads, and a flush for them, if it has no place yet
abbrev pub AsksFor : CheckStep → ℕ → User → CheckView → NodeCall → CheckView → Type 0
AsksFor heads shards user v call after = (v.holds.place ≡ None) × (call ≡ Coordinator calls.Heads) × (after ≡ waiting heads heads_call v.holds)
AsksFor flush shards user v call after = (v.holds.place ≡ None) × (call ≡ Coordinator calls.Flush) × (after ≡ waiting flush flush_call v.holds)
AsksFor catch_up shards user v call after = CatchesUp shards v call after
AsksFor read shards user v call after = Reads shards user v call after

-- Which call is made next. What a node is owed is kept.
pub record Asks (shards : ℕ) (user : User) (v : CheckView) (call : NodeCall) (after : CheckView) : Type 0 where
  pub owed : MayBeMade shards call
  pub asks : AsksFor v.next shards user v call after

-- memory was refused
abbrev pub LacksMemory : CheckView → Type 0
LacksMemory after = after ≡ ended (refused NoMemory)

-- It goes on to the first userset that waits. If none waits the user is no member; and if one waits and as many were walked as may be, it is refused.
pub record Continues (place : ℕ) (h : CheckHolds) (after : CheckView) : Type 0 where
  pub no : h.waiting ≡ [] → after ≡ ended (checked place false)
  pub full : h.waiting ≢ [] → max_walked ≤ length h.walked → after ≡ ended (refused Full)
  pub more : h.waiting ≢ [] → length h.walked < max_walked → after ≡ at_rest catch_up h

-- the heads tell the place, or that it is not kept yet, or that it is refused
abbrev pub HeadsGive : Freshness → CheckView → Result HeadsValue Refusal → CheckView → Type 0
HeadsGive fresh v (Ok told_heads) after = ((place : ℕ) × FindsPlace fresh told_heads place × Continues place (record v.holds { place = Some place }) after)
    ⊎ ((IsNotKept fresh told_heads × (after ≡ at_rest flush v.holds)) ⊎ ((e : Refusal) × IsRefused fresh told_heads e × (after ≡ ended (refused e))))
HeadsGive fresh v (Err e) after = after ≡ ended (refused e)

-- after a flush it asks for heads again
abbrev pub FlushGives : CheckView → Result (Unit {0}) Refusal → CheckView → Type 0
FlushGives v (Ok done) after = after ≡ at_rest heads v.holds
FlushGives v (Err e) after = after ≡ ended (refused e)

-- what progress of the catch-up makes of it
abbrev pub ProgressGives : CheckView → Progress → CheckView → Type 0
ProgressGives v (Next c) after = after ≡ at_rest catch_up (record v.holds { batch = c.batch })
ProgressGives v There after = (after ≡ at_rest read (record v.holds { batch = None })) ⊎ LacksMemory after
ProgressGives v (Refused e) after = after ≡ ended (refused e)

-- The reply belongs to the catch-up of the shard.
pub record CatchUpGives (v : CheckView) (awaited : Awaited) (reply : Reply) (after : CheckView) : Type 0 where
  pub call : CatchUpCallValue
  pub is_awaited : call.awaited ≡ awaited
  pub to : v.holds.place ≡ Some call.held.to
  pub holds : call.held.batch ≡ v.holds.batch
  pub progress : Progress
  pub gives : catching.Gives call reply progress
  pub then_gives : ProgressGives v progress after

-- It stays as it is; or the shard of the first that waits is read before it is asked how far it has learned, as if it has told that it is there.
abbrev pub HastensCheck : CheckView → CheckView → Type 0
HastensCheck v after = (after ≡ v) ⊎ ((after ≡ at_rest read (record v.holds { batch = None })) ⊎ LacksMemory after)

-- The rows of the userset that was walked: yes if they have the user; else it was walked, and those wait that it names for the first time.
pub record RowsGive (user : User) (place : ℕ) (h : CheckHolds) (y : Userset) (rows : List Tuple) (after : CheckView) : Type 0 where
  pub yes : Contains rows (holding y user) → after ≡ ended (checked place true)
  pub further : (Contains rows (holding y user) → ⊥)
      → LacksMemory after ⊎ ((next : CheckHolds) × Walks y rows h next × (next.walked ≡ h.walked ++ y ∷ []) × Continues place next after)

-- the shard has read; if it has not learned so far it is brought up to the place once more
abbrev pub ReadGives : User → CheckView → Result ReadReply Refusal → CheckView → Type 0
ReadGives user v (Ok (Rows rows)) after = (place : ℕ) (y : Userset) → v.holds.place ≡ Some place → slice_get v.holds.waiting 0 ≡ Some y → RowsGive user place v.holds y rows.items after
ReadGives user v (Ok Behind) after = (y : Userset) → slice_get v.holds.waiting 0 ≡ Some y → after ≡ at_rest catch_up v.holds
ReadGives user v (Err e) after = after ≡ ended (refused e)

-- What a reply makes of a check that waits for it.
abbrev pub GivesTo : Freshness → User → CheckView → CheckAwaited → Reply → CheckView → Type 0
GivesTo fresh user v heads_call (from_coordinator (told.Heads r)) after = HeadsGive fresh v r after
GivesTo fresh user v flush_call (from_coordinator (told.Flush r)) after = FlushGives v r after
GivesTo fresh user v (catch_up_call awaited) reply after = CatchUpGives v awaited reply after
GivesTo fresh user v read_call (from_shard (told_by.ReadForCheck y u r)) after = ReadGives user v r after
GivesTo fresh user v awaited reply after = ⊥

-- the reply is one to the call that is out
abbrev pub Fits : CheckAwaited → Reply → Type 0
Fits heads_call (from_coordinator (told.Heads r)) = Unit {0}
Fits flush_call (from_coordinator (told.Flush r)) = Unit {0}
Fits (catch_up_call awaited) reply = catching.Fits awaited reply
Fits read_call (from_shard (told_by.ReadForCheck y u r)) = Unit {0}
Fits awaited reply = ⊥
