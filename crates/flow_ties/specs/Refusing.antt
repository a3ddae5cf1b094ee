-- Why a flow is refused: a reply has told it, memory is refused, or the place that was asked for is not there.
use Rattle.std.specs.Prelude.{◌≡◌, ◌⊎◌, ◌≤◌, ◌<◌, ℕ, Bool, List, length, Some, Ok}
use Rattle.refusal.specs.declared.refusal.Refusal.{Refusal}
use Rattle.refusal.specs.declared.refusal.Refusal.TheVariants.{Collected, Future, NoMemory}
use Rattle.tuples.specs.declared.entry.Entry.{Entry}
use Rattle.decisions.specs.Flows.{Freshness, at_least, exact, latest}
use Rattle.calls.specs.Refusing.{HasTold, refused_by}
use Rattle.calls.specs.declared.call.NodeCall.{NodeCall}
use Rattle.calls.specs.declared.call.NodeCall.TheVariants.{Coordinator, Shard}
use Rattle.calls.specs.declared.call.CoordinatorCall.TheVariants.{Heads}
use Rattle.calls.specs.declared.reply.Reply.{Reply}
use Rattle.calls.specs.declared.reply.Reply.TheVariants.{Coordinator as from_coordinator}
use Rattle.calls.specs.declared.reply.CoordinatorReply.TheVariants as told

-- the node that a call names is there, in a store of this many shards
abbrev pub IsAtNode : ℕ → NodeCall → Type 0
IsAtNode shards (Coordinator call) = Unit {0}
IsAtNode shards (Shard s call) = s < shards

-- What a reply refuses is told then, beside all that was. Nothing is asked of a call of a shard that is not there.
pub record Notices (shards : ℕ) (old : List Bool) (call : NodeCall) (reply : Reply) (new : List Bool) : Type 0 where
  pub kept : (e : Refusal) → HasTold old e → HasTold new e
  pub carried : IsAtNode shards call → (e : Refusal) → refused_by reply ≡ Some e → HasTold new e

-- heads tell how many writes are decided, which is no less than how many are seen
abbrev pub TellsReach : List Entry → NodeCall → Reply → Type 0
TellsReach seen (Coordinator Heads) (from_coordinator (told.Heads (Ok heads))) = length seen ≤ heads.length
TellsReach seen call reply = Unit {0}

-- The place that was asked for is not there: it lies above all that there is, or, if it has to be just that one, below the horizon.
abbrev pub IsPlaceRefused : Freshness → List Entry → ℕ → Refusal → Type 0
IsPlaceRefused latest seen low e = ⊥
IsPlaceRefused (at_least z) seen low e = (e ≡ Future) × (length seen < z)
IsPlaceRefused (exact z) seen low e = ((e ≡ Future) × (length seen < z)) ⊎ ((e ≡ Collected) × (z < low))

-- why an answer is refused: a reply told it, memory is refused, or the place is not there
abbrev pub HasReason : List Bool → Freshness → List Entry → ℕ → Refusal → Type 0
HasReason marks fresh seen low e = HasTold marks e ⊎ ((e ≡ NoMemory) ⊎ IsPlaceRefused fresh seen low e)
