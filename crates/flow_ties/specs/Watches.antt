-- What a watch holds of the list that was seen, what it lists, and why it is refused.
use Rattle.std.specs.Prelude.{◌≡◌, ◌⊎◌, ◌≤◌, ◌+◌, ◌-◌, ℕ, Bool, List, length, Some, None, Ok}
use mathlib.Core.List.{IsPrefix}
use Rattle.refusal.specs.declared.refusal.Refusal.{Refusal}
use Rattle.tuples.specs.declared.entry.Entry.{Entry}
use Rattle.tuples.specs.Limits.{max_watched}
use Rattle.tuples.specs.Watching.{Placed, events}
use Rattle.decisions.specs.Flows.{HeadsHeld, exact, no_heads}
use Rattle.decisions.specs.Standing.{HeadsValue}
use Rattle.calls.specs.Belonging.{IsReplyTo}
use Rattle.calls.specs.declared.call.NodeCall.{NodeCall}
use Rattle.calls.specs.declared.call.NodeCall.TheVariants.{Coordinator}
use Rattle.calls.specs.declared.call.CoordinatorCall.TheVariants.{Batch, Heads}
use Rattle.calls.specs.declared.reply.Reply.{Reply}
use Rattle.calls.specs.declared.reply.Reply.TheVariants.{Coordinator as from_coordinator}
use Rattle.calls.specs.declared.reply.CoordinatorReply.TheVariants as told
use Rattle.answer_flow.specs.Watching.{Asks, GivesTo}
use Rattle.answer_flow.specs.WatchViews.{WatchStep, WatchView, at_rest, heads, listed, refused}
use Rattle.flow_ties.specs.Telling.{IsTold}
use Rattle.flow_ties.specs.Refusing.{HasReason, Notices, TellsReach}
use Rattle.flow_ties.specs.Cares.{TellsCare}

-- What a reply tells a watch beside what it tells each flow. Heads tell a kept place that is no less than what had been seen; and a batch has all that was
-- asked for, if that is no more than a watch may ask for.
abbrev pub TellsWatcher : ℕ → NodeCall → Reply → Type 0
TellsWatcher before (Coordinator Heads) (from_coordinator (told.Heads (Ok h))) = before ≤ h.kept
TellsWatcher before (Coordinator (Batch from to)) (from_coordinator (told.Batch (Ok b))) = (b.from ≡ from) × (to ≤ from + max_watched → from ≤ to → length b.writes ≡ to - from)
TellsWatcher before call reply = Unit {0}

-- Of a watch after a cursor, over at most this many places, in these namespaces; this much of the list had been seen before it.
module _ (cursor limit : ℕ) (names : List (List ℕ)) (before : ℕ) where
  -- All changes in its namespaces from after its cursor up to this place of the list, and no others. It is as far as was asked for, or as far as had been
  -- seen.
  pub record AreEventsTo (seen : List Entry) (place : ℕ) (changes : List Placed) : Type 0 where
    pub there : place ≤ length seen
    pub behind : cursor ≤ place
    pub within : place ≤ cursor + limit
    pub far : (place ≡ cursor + limit) ⊎ (before ≤ place)
    pub all : changes ≡ events seen cursor place names

  -- heads of the list, no older than what had been seen, by which the cursor is kept
  pub record AreHeadsOf (seen : List Entry) (h : HeadsValue) : Type 0 where
    pub kept : h.kept ≤ length seen
    pub new : before ≤ h.kept
    pub behind : cursor ≤ h.kept

  -- a watch is of the list: its heads are, and what it lists at its end
  pub record IsWatchOf (seen : List Entry) (v : WatchView) : Type 0 where
    pub heads : (h : HeadsValue) → v.holds.heads ≡ Some h → AreHeadsOf seen h
    pub lists : (place : ℕ) (changes : List Placed) → v.ended ≡ Some (listed place changes) → AreEventsTo seen place changes

  -- A turn: a call, the reply to it, which tells what is of the list as it was seen then, and what the watch makes of it.
  pub record WatchTurns (shards : ℕ) (later : List Entry) (v after : WatchView) : Type 0 where
    pub running : v.ended ≡ None
    pub call : NodeCall
    pub out : WatchView
    pub reply : Reply
    pub asks : Asks cursor limit v call out
    pub told : IsTold shards later call reply
    pub tells : TellsWatcher before call reply
    pub gives : (awaited : WatchStep) → out.awaited ≡ Some awaited → GivesTo cursor limit names out awaited reply after

abbrev pub WatchesBegin : Type 0
WatchesBegin = (cursor limit : ℕ) (names : List (List ℕ)) (before : ℕ) (seen : List Entry) → IsWatchOf cursor limit names before seen (at_rest heads no_heads)

-- while it runs, a longer list is as good
abbrev pub WatchesStaySeen : Type 0
WatchesStaySeen = (cursor limit : ℕ) (names : List (List ℕ)) (before : ℕ) (seen longer : List Entry) (v : WatchView) → IsPrefix seen longer → v.ended ≡ None
    → IsWatchOf cursor limit names before seen v → IsWatchOf cursor limit names before longer v

abbrev pub WatchesListWhatIsSeen : Type 0
WatchesListWhatIsSeen = (cursor limit : ℕ) (names : List (List ℕ)) (before shards : ℕ) (seen later : List Entry) (v after : WatchView) → limit ≤ max_watched → IsPrefix seen later
    → IsWatchOf cursor limit names before seen v → WatchTurns cursor limit names before shards later v after → IsWatchOf cursor limit names before later after

-- a watch that has ended with a refusal has a reason for it: the place that it asks for is its cursor, and just that one
abbrev pub WatchHasReason : List Bool → ℕ → List Entry → ℕ → WatchView → Type 0
WatchHasReason marks cursor seen low v = (e : Refusal) → v.ended ≡ Some (refused e) → HasReason marks (exact cursor) seen low e

-- between two calls, and so when it begins, it has not ended
abbrev pub WatchesAtRestHaveReason : Type 0
WatchesAtRestHaveReason = (cursor : ℕ) (marks : List Bool) (seen : List Entry) (low : ℕ) (step : WatchStep) (h : HeadsHeld) → WatchHasReason marks cursor seen low (at_rest step h)

-- If heads tell no less than what is seen, and no horizon above the one that is, a reply ends a watch with a refusal only for a reason.
abbrev pub WatchesRefuseForAReason : Type 0
WatchesRefuseForAReason = (shards cursor limit : ℕ) (names : List (List ℕ)) (old new : List Bool) (seen : List Entry) (low : ℕ) (v out after : WatchView) (call : NodeCall) (reply : Reply)
    → Asks cursor limit v call out → IsReplyTo call reply → ((awaited : WatchStep) → out.awaited ≡ Some awaited → GivesTo cursor limit names out awaited reply after)
    → TellsReach seen call reply → TellsCare low call reply → Notices shards old call reply new → WatchHasReason new cursor seen low after
