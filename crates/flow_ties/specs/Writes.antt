-- What a write holds on its way to a place of the list, and what it tells at its end.
use Rattle.std.specs.Prelude.{◌≡◌, ◌≢◌, ◌<◌, ℕ, Bool, List, Some, None, Ok, All}
use mathlib.Core.List.{IsPrefix}
use Rattle.refusal.specs.declared.refusal.Refusal.{Refusal}
use Rattle.tuples.specs.declared.entry.Entry.{Entry}
use Rattle.tuples.specs.Writes.{WriteValue}
use Rattle.decisions.specs.Standing.{DecidedValue}
use Rattle.decisions.specs.Values.{BatchValue, IntentValue}
use Rattle.coordinator.specs.declared.telling.Outcome.TheVariants.{Kept, Later}
use Rattle.calls.specs.Belonging.{IsReplyTo}
use Rattle.calls.specs.Refusing.{HasTold}
use Rattle.calls.specs.declared.call.NodeCall.{NodeCall}
use Rattle.calls.specs.declared.call.NodeCall.TheVariants.{Coordinator, Shard}
use Rattle.calls.specs.declared.call.CoordinatorCall.TheVariants.{Begin, Decide, Outcome}
use Rattle.calls.specs.declared.call.ShardCall.TheVariants.{Learn}
use Rattle.calls.specs.declared.reply.Reply.{Reply}
use Rattle.calls.specs.declared.reply.Reply.TheVariants.{Coordinator as from_coordinator}
use Rattle.calls.specs.declared.reply.CoordinatorReply.TheVariants as told
use Rattle.commit_flow.specs.declared.end.WriteEnd.TheVariants.{Cancelled, Refused, Wrote}
use Rattle.commit_flow.specs.Answering.{GivesTo}
use Rattle.commit_flow.specs.WriteHolds.{HeldTicket, WriteAwaited, nothing_begun, onward, outward}
use Rattle.commit_flow.specs.Views.{WriteView, at_rest}
use Rattle.commit_flow.specs.Writing.{Asks}
use Rattle.ties.specs.DecidingLaws.{StandsAt}
use Rattle.ties.specs.TellingLaws.{IsBatchOf}
use Rattle.flow_ties.specs.Telling.{IsHeld, IsTold}
use Rattle.flow_ties.specs.Refusing.{Notices}

-- the write that was asked for, under an id
pub record IsOfRequest (asked : WriteValue) (w : Entry) : Type 0 where
  pub changes : w.changes ≡ asked.changes
  pub conditions : w.conditions ≡ asked.conditions

-- The write that was asked for stands at the place, above this many places, and its id nowhere else in the list.
pub record IsWrittenAt (asked : WriteValue) (above : ℕ) (seen : List Entry) (place : ℕ) : Type 0 where
  pub write : Entry
  pub is_asked : IsOfRequest asked write
  pub stands : StandsAt place write seen
  pub higher : above < place

-- Given which decision is of which write, as the coordinator alone knows, the write that was asked for, and how long the list was that had been seen.
module _ (links : DecidedValue → Entry → Type 0) (asked : WriteValue) (above : ℕ) where
  -- a decision of the write that was asked for, at a higher place
  pub record IsDecisionOf (d : DecidedValue) : Type 0 where
    pub write : Entry
    pub is_asked : IsOfRequest asked write
    pub linked : links d write
    pub higher : above < d.place

  -- A write on its way: its intent and its decision are of the write that was asked for, what it has for a shard is a part of the list, and what it
  -- tells at its end stands in the list.
  pub record IsWriteOf (seen : List Entry) (v : WriteView) : Type 0 where
    pub unbegun : (w : WriteValue) → v.write ≡ Some w → w ≡ asked
    pub intent : (i : IntentValue) → v.holds.intent ≡ Some i → IsOfRequest asked i.write
    pub batch : IsHeld seen v.holds.batch
    pub decided : (d : DecidedValue) → v.holds.decided ≡ Some d → IsDecisionOf d × (v.holds.way ≡ onward)
    pub written : (place : ℕ) → v.ended ≡ Some (Wrote place) → IsWrittenAt asked above seen place

  -- What a reply tells a writer. An intent is of the write that was handed in; a decision is of the intent's write, at a higher place; one that is kept
  -- stands in the list at its own place.
  abbrev pub TellsWriter : List Entry → NodeCall → Reply → Type 0
  TellsWriter seen (Coordinator (Begin write)) (from_coordinator (told.Begin (Ok i))) = IsOfRequest write i.write
  TellsWriter seen (Coordinator (Decide intent votes)) (from_coordinator (told.Decide (Ok d))) = links d intent.write × (above < d.place)
  TellsWriter seen (Coordinator (Outcome d)) (from_coordinator (told.Outcome (Kept place))) = (place ≡ d.place) × ((w : Entry) → links d w → StandsAt place w seen)
  TellsWriter seen (Coordinator (Outcome d)) (from_coordinator (told.Outcome (Later back))) = back ≡ d
  TellsWriter seen call reply = Unit {0}

  -- A turn: a call, the reply to it, which tells what is of the list as it was seen then, and what the write makes of it.
  pub record WriteTurns (shards : ℕ) (later : List Entry) (v after : WriteView) : Type 0 where
    pub running : v.ended ≡ None
    pub call : NodeCall
    pub out : WriteView
    pub reply : Reply
    pub asks : Asks shards v call out
    pub belongs : IsReplyTo call reply
    pub told : IsTold shards later call reply
    pub tells : TellsWriter later call reply
    pub gives : (awaited : WriteAwaited) → out.awaited ≡ Some awaited → GivesTo out awaited reply after

-- a write that is not begun
abbrev pub unbegun : WriteValue → WriteView
unbegun write = record (at_rest nothing_begun) { write = Some write }

-- which decision is of which write
abbrev pub Linking : Type 1
Linking = DecidedValue → Entry → Type 0

abbrev pub WritesBegin : Linking → Type 0
WritesBegin links = (asked : WriteValue) (above : ℕ) (seen : List Entry) → IsWriteOf links asked above seen (unbegun asked)

-- while it runs, a longer list is as good
abbrev pub WritesStaySeen : Linking → Type 0
WritesStaySeen links = (asked : WriteValue) (above : ℕ) (seen longer : List Entry) (v : WriteView) → IsPrefix seen longer → v.ended ≡ None
    → IsWriteOf links asked above seen v → IsWriteOf links asked above longer v

-- the decision that it holds may be known in another way
abbrev pub WritesAreRelinked : Linking → Linking → Type 0
WritesAreRelinked links other = (asked : WriteValue) (above : ℕ) (seen : List Entry) (v : WriteView)
    → ((d : DecidedValue) (w : Entry) → v.holds.decided ≡ Some d → links d w → other d w) → IsWriteOf links asked above seen v → IsWriteOf other asked above seen v

-- what it hands to a shard is a part of the list
abbrev pub WritesHandOverWhatIsSeen : Linking → Type 0
WritesHandOverWhatIsSeen links = (asked : WriteValue) (above shards s : ℕ) (seen : List Entry) (v out : WriteView) (b : BatchValue)
    → IsWriteOf links asked above seen v → Asks shards v (Shard s (Learn b)) out → IsBatchOf seen b

abbrev pub WritesTellWhatStands : Linking → Type 0
WritesTellWhatStands links = (asked : WriteValue) (above shards : ℕ) (seen later : List Entry) (v after : WriteView) → IsPrefix seen later
    → IsWriteOf links asked above seen v → WriteTurns links asked above shards later v after → IsWriteOf links asked above later after

-- each ticket is of a shard that is there
abbrev pub AreThere : ℕ → List HeldTicket → Type 0
AreThere shards = All (λ (t : HeldTicket). t.shard < shards)

-- The refusal that it goes out with, and the one that it ends with, was told; and its tickets are of shards that are there, so none of these was made up for a
-- shard that is not. Nobody has cancelled it: it never goes out without a refusal, and does not end so.
pub record RefusesAsTold (shards : ℕ) (marks : List Bool) (v : WriteView) : Type 0 where
  pub leaving : (e : Refusal) → v.holds.way ≡ outward (Some e) → HasTold marks e
  pub ended : (e : Refusal) → v.ended ≡ Some (Refused e) → HasTold marks e
  pub tickets : AreThere shards v.holds.tickets
  pub goes_uncancelled : v.holds.way ≢ outward None
  pub ends_uncancelled : v.ended ≢ Some Cancelled

-- nothing refuses a write that is not begun
abbrev pub WritesBeginUntold : Type 0
WritesBeginUntold = (shards : ℕ) (marks : List Bool) (write : WriteValue) → RefusesAsTold shards marks (unbegun write)

abbrev pub WritesRefuseAsTold : Type 0
WritesRefuseAsTold = (shards : ℕ) (old new : List Bool) (v out after : WriteView) (call : NodeCall) (reply : Reply) → RefusesAsTold shards old v → Asks shards v call out → IsReplyTo call reply
    → ((awaited : WriteAwaited) → out.awaited ≡ Some awaited → GivesTo out awaited reply after) → Notices shards old call reply new → RefusesAsTold shards new after
