-- What a check holds of the list that was seen, what it answers, and why it is refused.
use Rattle.std.specs.Prelude.{◌≡◌, ◌⊎◌, ◌≤◌, ◌↔◌, ℕ, Bool, List, [], ◌∷◌, length, Option, Some, None, IsTrue}
use mathlib.Core.List.{IsPrefix}
use Rattle.refusal.specs.declared.refusal.Refusal.{Refusal}
use Rattle.refusal.specs.declared.refusal.Refusal.TheVariants.{Full}
use Rattle.tuples.specs.declared.entry.Entry.{Entry}
use Rattle.tuples.specs.declared.object.Userset.{Userset}
use Rattle.tuples.specs.declared.user.User.{User}
use Rattle.tuples.specs.Checking.{IsMember, ReachesMoreThan}
use Rattle.tuples.specs.Limits.{max_walked}
use Rattle.tuples.specs.Log.{is_at}
use Rattle.decisions.specs.Flows.{CheckHolds, Freshness}
use Rattle.decisions.specs.Values.{BatchValue}
use Rattle.calls.specs.Belonging.{IsReplyTo}
use Rattle.calls.specs.declared.call.NodeCall.{NodeCall}
use Rattle.calls.specs.declared.call.NodeCall.TheVariants.{Shard}
use Rattle.calls.specs.declared.call.ShardCall.TheVariants.{Learn}
use Rattle.calls.specs.declared.reply.Reply.{Reply}
use Rattle.answer_flow.specs.Checking.{Asks, GivesTo}
use Rattle.answer_flow.specs.CheckViews.{CheckAwaited, CheckEnding, CheckStep, CheckView, at_rest, begins_at, catch_up, checked, heads, refused}
use Rattle.laws.specs.Walks.{IsWalk}
use Rattle.ties.specs.TellingLaws.{IsBatchOf}
use Rattle.flow_ties.specs.Telling.{IsAsAsked, IsHeld, IsTold}
use Rattle.flow_ties.specs.Refusing.{HasReason, Notices, TellsReach}
use Rattle.flow_ties.specs.Cares.{TellsCare}

-- at a place of the list, one that was asked for: what was met on a walk from the asked userset
pub record HoldsWalk (seen : List Entry) (fresh : Freshness) (x : Userset) (u : User) (place : ℕ) (h : CheckHolds) : Type 0 where
  pub there : place ≤ length seen
  pub wanted : IsAsAsked fresh place
  pub walk : IsWalk (is_at seen place) x u h.walked h.waiting

-- whether the user is a member over the tuples of the list at a place of it that was asked for
pub record IsMembershipAt (seen : List Entry) (fresh : Freshness) (x : Userset) (u : User) (place : ℕ) (answer : Bool) : Type 0 where
  pub there : place ≤ length seen
  pub wanted : IsAsAsked fresh place
  pub member : IsTrue answer ↔ IsMember (is_at seen place) u x

-- what it tells at its end is so
abbrev pub AnswersMembership : List Entry → Freshness → Userset → User → Option CheckEnding → Type 0
AnswersMembership seen fresh x u end = (place : ℕ) (answer : Bool) → end ≡ Some (checked place answer) → IsMembershipAt seen fresh x u place answer

-- A check is of the list: before it has its place it holds the asked userset alone, and then a walk over the list and, on its way to a shard, a part of it.
pub record IsCheckOf (seen : List Entry) (fresh : Freshness) (x : Userset) (u : User) (v : CheckView) : Type 0 where
  pub nothing : v.ended ≡ None → v.holds.place ≡ None → (v.holds.walked ≡ []) × (v.holds.waiting ≡ x ∷ [])
  pub held : (place : ℕ) → v.holds.place ≡ Some place → HoldsWalk seen fresh x u place v.holds
  pub batch : IsHeld seen v.holds.batch
  pub answers : AnswersMembership seen fresh x u v.ended

-- a check that begins at a place of the list
abbrev pub ChecksBeginAtPlaces : Type 0
ChecksBeginAtPlaces = (seen : List Entry) (fresh : Freshness) (x : Userset) (u : User) (place : ℕ) (v : CheckView) → place ≤ length seen → IsAsAsked fresh place
    → v ≡ at_rest catch_up (record (begins_at x) { place = Some place }) → IsCheckOf seen fresh x u v

-- a check that has no place yet
abbrev pub ChecksBegin : Type 0
ChecksBegin = (seen : List Entry) (fresh : Freshness) (x : Userset) (u : User) → IsCheckOf seen fresh x u (at_rest heads (begins_at x))

-- a longer list is as good
abbrev pub ChecksStaySeen : Type 0
ChecksStaySeen = (seen longer : List Entry) (fresh : Freshness) (x : Userset) (u : User) (v : CheckView) → IsPrefix seen longer → IsCheckOf seen fresh x u v → IsCheckOf longer fresh x u v

-- what it hands to a shard is a part of the list
abbrev pub ChecksHandOverWhatIsSeen : Type 0
ChecksHandOverWhatIsSeen = (shards s : ℕ) (seen : List Entry) (fresh : Freshness) (x : Userset) (u : User) (v out : CheckView) (b : BatchValue) → IsCheckOf seen fresh x u v → Asks shards u v (Shard s (Learn b)) out → IsBatchOf seen b

-- A turn: a call, the reply to it, which tells what is of the list as it was seen then, and what the check makes of it.
pub record CheckTurns (shards : ℕ) (later : List Entry) (u : User) (fresh : Freshness) (v after : CheckView) : Type 0 where
  pub running : v.ended ≡ None
  pub call : NodeCall
  pub out : CheckView
  pub reply : Reply
  pub asks : Asks shards u v call out
  pub belongs : IsReplyTo call reply
  pub told : IsTold shards later call reply
  pub gives : (awaited : CheckAwaited) → out.awaited ≡ Some awaited → GivesTo fresh u out awaited reply after

abbrev pub ChecksAnswerWhatIsSeen : Type 0
ChecksAnswerWhatIsSeen = (shards : ℕ) (seen later : List Entry) (fresh : Freshness) (x : Userset) (u : User) (v after : CheckView) → IsPrefix seen later → IsCheckOf seen fresh x u v
    → CheckTurns shards later u fresh v after → IsCheckOf later fresh x u after

-- more usersets than a check may walk can be reached at a place of the list, one that is wanted
pub record IsTooFar (seen : List Entry) (is_wanted : ℕ → Type 0) (x : Userset) : Type 0 where
  pub place : ℕ
  pub there : place ≤ length seen
  pub wanted : is_wanted place
  pub reaches : ReachesMoreThan max_walked (is_at seen place) x

-- a check that has ended with a refusal has a reason for it, and there is one more than a read has: that it is too far to go at a place that was asked for
abbrev pub CheckHasReason : List Bool → Freshness → List Entry → ℕ → Userset → CheckView → Type 0
CheckHasReason marks fresh seen low x v = (e : Refusal) → v.ended ≡ Some (refused e) → HasReason marks fresh seen low e ⊎ ((e ≡ Full) × IsTooFar seen (IsAsAsked fresh) x)

-- between two calls, and so when it begins, it has not ended
abbrev pub ChecksAtRestHaveReason : Type 0
ChecksAtRestHaveReason = (fresh : Freshness) (x : Userset) (marks : List Bool) (seen : List Entry) (low : ℕ) (step : CheckStep) (h : CheckHolds) → CheckHasReason marks fresh seen low x (at_rest step h)

-- If heads tell no less than what is seen, and no horizon above the one that is, a reply ends a check with a refusal only for a reason. What it holds is a walk over
-- the list: so, if it stops at the most that it may walk, more can be reached there.
abbrev pub ChecksRefuseForAReason : Type 0
ChecksRefuseForAReason = (shards : ℕ) (fresh : Freshness) (x : Userset) (u : User) (old new : List Bool) (seen : List Entry) (low : ℕ) (v out after : CheckView) (call : NodeCall) (reply : Reply)
    → v.ended ≡ None → IsCheckOf seen fresh x u v → Asks shards u v call out → IsReplyTo call reply → IsTold shards seen call reply
    → ((awaited : CheckAwaited) → out.awaited ≡ Some awaited → GivesTo fresh u out awaited reply after)
    → TellsReach seen call reply → TellsCare low call reply → Notices shards old call reply new → CheckHasReason new fresh seen low x after
