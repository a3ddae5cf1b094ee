-- The calls of a resolution, and what each reply makes of it.
use Rattle.std.specs.Prelude.{◌≡◌, ◌⊎◌, ◌++◌, ℕ, List, [], ◌∷◌, map, length, slice_get, Option, Some, None, Result, Ok, Err, MatchOption, Contains}
use Rattle.std.specs.Global.{Vec}
use Rattle.tuples.specs.declared.entry.WriteId.{WriteId}
use Rattle.refusal.specs.declared.refusal.Refusal.{Refusal}
use Rattle.refusal.specs.declared.refusal.Refusal.TheVariants.{NoMemory}
use Rattle.decisions.specs.Values.{VerdictValue}
use Rattle.decisions.specs.Flows as flows
use Rattle.decisions.specs.Flows.{ResolveHolds, aborted, committed, undecided}
use Rattle.coordinator.specs.declared.telling.Inquiry.{Inquiry}
use Rattle.coordinator.specs.declared.telling.Inquiry.TheVariants.{Commit, Abort, Undecided}
use Rattle.catch_up.specs.Held.{Awaited}
use Rattle.catch_up.specs.CatchingUp as catching
use Rattle.catch_up.specs.declared.caught.Progress as progresses
use Rattle.catch_up.specs.declared.caught.Progress.TheVariants.{Next, There, Refused as is_refused}
use Rattle.calls.specs.declared.call.NodeCall.{NodeCall}
use Rattle.calls.specs.declared.progress.Progress.{Progress}
use Rattle.calls.specs.declared.progress.Progress.TheVariants as made
use Rattle.names.specs.declared.call_name.CallName.{CallName}
use Rattle.calls.specs.declared.call.NodeCall.TheVariants.{Coordinator as of_coordinator, Shard as of_shard}
use Rattle.calls.specs.declared.call.CoordinatorCall.TheVariants.{Inquire}
use Rattle.calls.specs.declared.call.ShardCall.TheVariants.{DropWrite, InDoubt}
use Rattle.calls.specs.declared.reply.Reply.{Reply}
use Rattle.calls.specs.declared.reply.Reply.TheVariants.{Coordinator as from_coordinator, Shard as from_shard}
use Rattle.calls.specs.declared.reply.CoordinatorReply.TheVariants as told
use Rattle.calls.specs.declared.reply.ShardReply.TheVariants as told_by
use Rattle.care_flow.specs.declared.end.CareEnd.{CareEnd}
use Rattle.care_flow.specs.declared.end.CareEnd.TheVariants.{Refused, Resolved as all_resolved}
use Rattle.care_flow.specs.declared.end.Resolved.{Resolved}
use Rattle.care_flow.specs.Ends.{id_of, resolved_value}
use Rattle.care_flow.specs.CatchUps.{AsksToCatchUp, CatchUpGives, on_its_way}
use Rattle.care_flow.specs.Views.{CareView, IsBehind, out, over, ready}

-- The shard is asked which writes are in doubt there; the coordinator is asked for one of them; the shard is caught up to the place of one that was decided,
-- with the call of that which is out; or drops one that was aborted.
pub data ResolveStep : Type 0 where
  in_doubt : ResolveStep
  inquire : WriteId → ResolveStep
  catch_up : ℕ → Option Awaited → ResolveStep
  drop_write : ResolveStep

abbrev pub ResolveView : Type 0
ResolveView = CareView ResolveHolds ResolveStep

-- Of this shard, with the name of its next call, if there is one. The ids are those that were in doubt there.
pub record ResolveFlowValue : Type 0 where
  pub shard : ℕ
  pub doubts : List WriteId
  pub seen : ResolveView
  pub next_name : Option CallName

-- a resolution that has found nothing
abbrev pub nothing_found : ResolveHolds
nothing_found = record { found = []; verdict = None; batch = None }

-- a write was found that is decided at this place
abbrev pub HasCommitted : List flows.Resolved → ℕ → Type 0
HasCommitted found place = (id : WriteId) × Contains found (committed id place)

-- Which call is made, with what is held. The shard is caught up only to the place of a write that is decided, and drops one only by the verdict on it.
abbrev pub Asks : ℕ → ResolveHolds → ResolveStep → NodeCall → ResolveView → Type 0
Asks s h in_doubt call after = (call ≡ of_shard s InDoubt) × (after ≡ out h in_doubt)
Asks s h (inquire id) call after = (call ≡ of_coordinator (Inquire id)) × (after ≡ out h (inquire id))
Asks s h (catch_up to is_out) call after = HasCommitted h.found to
    × AsksToCatchUp (on_its_way s to h.batch) call (λ batch awaited. after ≡ out (record h { batch = batch }) (catch_up to (Some awaited)))
Asks s h drop_write call after = (verdict : VerdictValue) × (h.verdict ≡ Some verdict.id) × (call ≡ of_shard s (DropWrite verdict None))
    × (after ≡ out (record h { verdict = None }) drop_write)

-- the reply is one to the call that is out
abbrev pub Fits : ResolveStep → Reply → Type 0
Fits in_doubt (from_shard (told_by.InDoubt r)) = Unit {0}
Fits (inquire id) (from_coordinator (told.Inquire r)) = Unit {0}
Fits (catch_up to (Some awaited)) reply = catching.Fits awaited reply
Fits drop_write (from_shard (told_by.DropWrite verdict r)) = Unit {0}
Fits step reply = ⊥

-- it ends with all that it found
abbrev pub EndsResolved : ResolveHolds → ResolveView → Type 0
EndsResolved h after = (all : Vec Resolved) × (map resolved_value all.items ≡ h.found) × (after ≡ over h (all_resolved all))

-- it ends with a refusal
abbrev pub EndsRefused : ResolveHolds → Refusal → ResolveView → Type 0
EndsRefused h e after = after ≡ over h (Refused e)

-- It continues with the first write for which the coordinator was not asked, and ends if it was asked for each.
abbrev pub GoesThrough : List WriteId → ResolveHolds → ResolveView → Type 0
GoesThrough doubts h after = MatchOption (slice_get doubts (length h.found)) (EndsResolved h after) (λ id. after ≡ ready h (inquire id))

-- the writes in doubt are known, if there is memory for what is found of them
abbrev pub DoubtsGive : ResolveHolds → Result (Vec WriteId) Refusal → List WriteId → ResolveView → Type 0
DoubtsGive h (Ok ids) doubts after = ((doubts ≡ ids.items) × GoesThrough doubts h after) ⊎ EndsRefused h NoMemory after
DoubtsGive h (Err e) doubts after = EndsRefused h e after

-- this was found of a write, with a verdict on it or none
abbrev pub finding : flows.Resolved → Option WriteId → ResolveHolds → ResolveHolds
finding x verdict h = record h { found = h.found ++ x ∷ []; verdict = verdict }

-- A write that was decided is learned, one that was aborted is dropped, and an undecided one stays as it is.
abbrev pub InquiryGives : List WriteId → ResolveHolds → WriteId → Result Inquiry Refusal → ResolveView → Type 0
InquiryGives doubts h id (Ok (Commit place)) after = after ≡ ready (finding (committed id place) None h) (catch_up place None)
InquiryGives doubts h id (Ok (Abort verdict)) after = after ≡ ready (finding (aborted id) (Some verdict.id) h) drop_write
InquiryGives doubts h id (Ok Undecided) after = GoesThrough doubts (finding (undecided id) None h) after
InquiryGives doubts h id (Err e) after = EndsRefused h e after

-- it continues with the next write if the shard is there
abbrev pub ProgressGives : List WriteId → ResolveHolds → ℕ → progresses.Progress → ResolveView → Type 0
ProgressGives doubts h to (Next c) after = after ≡ ready (record h { batch = c.batch }) (catch_up to None)
ProgressGives doubts h to There after = GoesThrough doubts (record h { batch = None }) after
ProgressGives doubts h to (is_refused e) after = EndsRefused (record h { batch = None }) e after

-- the shard was asked to drop a write
abbrev pub DropGives : List WriteId → ResolveHolds → Result (Unit {0}) Refusal → ResolveView → Type 0
DropGives doubts h (Ok done) after = GoesThrough doubts h after
DropGives doubts h (Err e) after = EndsRefused h e after

-- What a reply makes of it; the ids in doubt are those that the shard answered.
abbrev pub Gives : ℕ → List WriteId → ResolveHolds → ResolveStep → Reply → List WriteId → ResolveView → Type 0
Gives s doubts h in_doubt (from_shard (told_by.InDoubt r)) ids after = DoubtsGive h r ids after
Gives s doubts h (inquire id) (from_coordinator (told.Inquire r)) ids after = (ids ≡ doubts) × InquiryGives doubts h id r after
Gives s doubts h (catch_up to (Some awaited)) reply ids after = (ids ≡ doubts)
    × CatchUpGives (on_its_way s to h.batch) awaited reply (λ progress. ProgressGives doubts h to progress after)
Gives s doubts h drop_write (from_shard (told_by.DropWrite verdict r)) ids after = (ids ≡ doubts) × DropGives doubts h r after
Gives s doubts h step reply ids after = ⊥

-- Its next call, if there is one.
abbrev pub NextCall : ResolveFlowValue → Option NodeCall → ResolveFlowValue → Type 0
NextCall old result new = MatchOption old.seen.next ((result ≡ None) × (new.seen ≡ old.seen)) (λ step. MatchOption result ⊥ (λ call. Asks old.shard old.seen.holds step call new.seen))

-- It waits for such a reply.
abbrev pub Awaits : ResolveFlowValue → Reply → Type 0
Awaits v reply = MatchOption v.seen.awaited ⊥ (λ step. Fits step reply)

-- What the reply makes of it.
abbrev pub Answered : ResolveFlowValue → Reply → ResolveFlowValue → Type 0
Answered old reply new = MatchOption old.seen.awaited ⊥ (λ step. Gives old.shard old.doubts old.seen.holds step reply new.doubts new.seen)

-- it reports on each of these writes, in their order
abbrev pub TellsOfEach : List WriteId → CareEnd → Type 0
TellsOfEach doubts (all_resolved all) = map id_of all.items ≡ doubts
TellsOfEach doubts end = Unit {0}

-- What is left of it: it waits for its next turn, or has ended with what it found.
abbrev pub Makes : ResolveFlowValue → Reply → Progress ResolveFlowValue CareEnd → Type 0
Makes old reply (made.Next new) = (new.shard ≡ old.shard) × Answered old reply new × IsBehind new.seen
Makes old reply (made.Ended end) = (doubts : List WriteId) × (h : ResolveHolds) × Answered old reply (record old { doubts = doubts; seen = over h end; next_name = None }) × TellsOfEach doubts end
