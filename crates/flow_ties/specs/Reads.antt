-- What a read holds of the list that was seen, what it answers, and why it is refused.
use Rattle.std.specs.Prelude.{◌≡◌, ◌≤◌, ℕ, Bool, List, length, Option, Some, None, slice_get}
use mathlib.Core.List.{IsPrefix}
use Rattle.refusal.specs.declared.refusal.Refusal.{Refusal}
use Rattle.refusal.specs.declared.refusal.Refusal.TheVariants.{NoMemory}
use Rattle.tuples.specs.declared.entry.Entry.{Entry}
use Rattle.tuples.specs.declared.tuple.Tuple.{Tuple}
use Rattle.tuples.specs.declared.tupleset.Tupleset.{Tupleset}
use Rattle.tuples.specs.Log.{is_at}
use Rattle.tuples.specs.Reads.{IsSelection}
use Rattle.decisions.specs.Flows.{Freshness, ReadHolds, nothing_read}
use Rattle.decisions.specs.Values.{BatchValue}
use Rattle.calls.specs.Belonging.{IsReplyTo}
use Rattle.calls.specs.declared.call.NodeCall.{NodeCall}
use Rattle.calls.specs.declared.call.NodeCall.TheVariants.{Shard}
use Rattle.calls.specs.declared.call.ShardCall.TheVariants.{Learn}
use Rattle.calls.specs.declared.reply.Reply.{Reply}
use Rattle.answer_flow.specs.Reading.{Asks, Continues, GivesTo}
use Rattle.answer_flow.specs.ReadViews.{ReadAwaited, ReadEnding, ReadStep, ReadView, at_rest, heads, refused, selected}
use Rattle.laws.specs.Shards.{there_below}
use Rattle.ties.specs.TellingLaws.{IsBatchOf}
use Rattle.flow_ties.specs.Telling.{IsAsAsked, IsHeld, IsTold}
use Rattle.flow_ties.specs.Refusing.{HasReason, Notices, TellsReach}
use Rattle.flow_ties.specs.Cares.{TellsCare}

-- At a place of the list, one that was asked for: the rows of each tupleset that is done, and of the next one those of the shards below a number.
pub record HoldsRows (shards : ℕ) (seen : List Entry) (fresh : Freshness) (sets : List Tupleset) (place : ℕ) (h : ReadHolds) : Type 0 where
  pub there : place ≤ length seen
  pub wanted : IsAsAsked fresh place
  pub done : (i : ℕ) (q : Tupleset) (rows : List Tuple) → slice_get sets i ≡ Some q → slice_get h.done i ≡ Some rows → IsSelection (is_at seen place) q rows
  pub few : length h.done ≤ length sets
  pub rows : (q : Tupleset) → slice_get sets (length h.done) ≡ Some q → IsSelection (there_below shards h.below seen place) q h.rows

-- rows of each tupleset, as it selects them of the list at a place of it that was asked for
pub record AreRowsAt (seen : List Entry) (fresh : Freshness) (sets : List Tupleset) (place : ℕ) (done : List (List Tuple)) : Type 0 where
  pub there : place ≤ length seen
  pub wanted : IsAsAsked fresh place
  pub all : length done ≡ length sets
  pub each : (i : ℕ) (q : Tupleset) (rows : List Tuple) → slice_get sets i ≡ Some q → slice_get done i ≡ Some rows → IsSelection (is_at seen place) q rows

-- what it tells at its end is so
abbrev pub AnswersRows : List Entry → Freshness → List Tupleset → Option ReadEnding → Type 0
AnswersRows seen fresh sets end = (place : ℕ) (done : List (List Tuple)) → end ≡ Some (selected place done) → AreRowsAt seen fresh sets place done

-- A read is of the list: it holds nothing before it has its place, and then rows of the list and, on its way to a shard, a part of it.
pub record IsReadOf (shards : ℕ) (seen : List Entry) (fresh : Freshness) (sets : List Tupleset) (v : ReadView) : Type 0 where
  pub nothing : v.holds.place ≡ None → v.holds ≡ nothing_read
  pub held : (place : ℕ) → v.holds.place ≡ Some place → HoldsRows shards seen fresh sets place v.holds
  pub batch : IsHeld seen v.holds.batch
  pub answers : AnswersRows seen fresh sets v.ended

-- a read that begins at a place of the list
abbrev pub ReadsBeginAtPlaces : Type 0
ReadsBeginAtPlaces = (shards : ℕ) (seen : List Entry) (fresh : Freshness) (sets : List Tupleset) (place : ℕ) (v : ReadView) → place ≤ length seen → IsAsAsked fresh place → Continues sets place (record nothing_read { place = Some place }) v
    → IsReadOf shards seen fresh sets v

-- a read that has no place yet
abbrev pub ReadsBegin : Type 0
ReadsBegin = (shards : ℕ) (seen : List Entry) (fresh : Freshness) (sets : List Tupleset) → IsReadOf shards seen fresh sets (at_rest heads nothing_read)

-- a longer list is as good
abbrev pub ReadsStaySeen : Type 0
ReadsStaySeen = (shards : ℕ) (seen longer : List Entry) (fresh : Freshness) (sets : List Tupleset) (v : ReadView) → IsPrefix seen longer → IsReadOf shards seen fresh sets v → IsReadOf shards longer fresh sets v

-- what it hands to a shard is a part of the list
abbrev pub ReadsHandOverWhatIsSeen : Type 0
ReadsHandOverWhatIsSeen = (shards s : ℕ) (seen : List Entry) (fresh : Freshness) (sets : List Tupleset) (v out : ReadView) (b : BatchValue) → IsReadOf shards seen fresh sets v → Asks shards sets v (Shard s (Learn b)) out → IsBatchOf seen b

-- A turn: a call, the reply to it, which tells what is of the list as it was seen then, and what the read makes of it.
pub record ReadTurns (shards : ℕ) (later : List Entry) (sets : List Tupleset) (fresh : Freshness) (v after : ReadView) : Type 0 where
  pub call : NodeCall
  pub out : ReadView
  pub reply : Reply
  pub asks : Asks shards sets v call out
  pub belongs : IsReplyTo call reply
  pub told : IsTold shards later call reply
  pub gives : (awaited : ReadAwaited) → out.awaited ≡ Some awaited → GivesTo shards fresh sets out awaited reply after

abbrev pub ReadsAnswerWhatIsSeen : Type 0
ReadsAnswerWhatIsSeen = (shards : ℕ) (seen later : List Entry) (fresh : Freshness) (sets : List Tupleset) (v after : ReadView) → IsPrefix seen later → IsReadOf shards seen fresh sets v
    → ReadTurns shards later sets fresh v after → IsReadOf shards later fresh sets after

-- a read that has ended with a refusal has a reason for it
abbrev pub ReadHasReason : List Bool → Freshness → List Entry → ℕ → ReadView → Type 0
ReadHasReason marks fresh seen low v = (e : Refusal) → v.ended ≡ Some (refused e) → HasReason marks fresh seen low e

-- between two calls it has not ended
abbrev pub ReadsAtRestHaveReason : Type 0
ReadsAtRestHaveReason = (fresh : Freshness) (marks : List Bool) (seen : List Entry) (low : ℕ) (step : ReadStep) (h : ReadHolds) → ReadHasReason marks fresh seen low (at_rest step h)

-- if it begins at a place of the list, only memory can be refused
abbrev pub ReadsBeginForAReason : Type 0
ReadsBeginForAReason = (sets : List Tupleset) (place : ℕ) (v : ReadView) → Continues sets place (record nothing_read { place = Some place }) v
    → (e : Refusal) → v.ended ≡ Some (refused e) → e ≡ NoMemory

-- If heads tell no less than what is seen, and no horizon above the one that is, a reply ends a read with a refusal only for a reason.
abbrev pub ReadsRefuseForAReason : Type 0
ReadsRefuseForAReason = (shards : ℕ) (fresh : Freshness) (sets : List Tupleset) (old new : List Bool) (seen : List Entry) (low : ℕ) (v out after : ReadView) (call : NodeCall) (reply : Reply)
    → Asks shards sets v call out → IsReplyTo call reply → ((awaited : ReadAwaited) → out.awaited ≡ Some awaited → GivesTo shards fresh sets out awaited reply after)
    → TellsReach seen call reply → TellsCare low call reply → Notices shards old call reply new → ReadHasReason new fresh seen low after
