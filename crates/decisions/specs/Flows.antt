-- What flows are asked for, and what each holds between two of its calls. All kinds stand together, since the laws of a whole run cite them all.
use Rattle.std.specs.Prelude.{ℕ, Bool, false, List, [], Option, None}
use Rattle.tuples.specs.declared.entry.WriteId.{WriteId}
use Rattle.tuples.specs.declared.object.Userset.{Userset}
use Rattle.tuples.specs.declared.tuple.Tuple.{Tuple}
use Rattle.refusal.specs.declared.refusal.Refusal.{Refusal}
use Rattle.decisions.specs.Values.{BatchValue, IntentValue, VoteValue}
use Rattle.decisions.specs.Standing.{DecidedValue, HeadsValue, SettledValue}
-- the place at which an answer is wanted: the kept one, one not below this place, or this place
pub use Rattle.tuples.specs.declared.freshness.Freshness.{Freshness}
pub use Rattle.tuples.specs.declared.freshness.Freshness.TheVariants.{Latest as latest, AtLeast as at_least, Exact as exact}

-- a ticket of a shard, for a write, of an epoch of the shard
pub record HeldTicket : Type 0 where
  pub shard : ℕ
  pub id : WriteId
  pub epoch : ℕ

-- a vote of a shard, for a write
abbrev pub HeldVote : Type 0
HeldVote = VoteValue

-- where a write flow is heading: to its decision and its outcome, or out, with the refusal that it met or, if it was cancelled, with none
pub data Way : Type 0 where
  onward : Way
  outward : Option Refusal → Way

-- A write flow: where it is heading; the id of its write, once that was begun; the intent, the tickets and votes, and the decision, each
-- until it is spent; decisions on their way to a shard; and the verdict on a write that was aborted.
pub record WriteHolds : Type 0 where
  pub way : Way
  pub id : Option WriteId
  pub intent : Option IntentValue
  pub tickets : List HeldTicket
  pub votes : List HeldVote
  pub decided : Option DecidedValue
  pub batch : Option BatchValue
  pub verdict : Option WriteId

-- A read: the heads, and the place once it is found; the rows of each tupleset that is done; of the next one the rows of the shards
-- below a number.
pub record ReadHolds : Type 0 where
  pub heads : Option HeadsValue
  pub place : Option ℕ
  pub done : List (List Tuple)
  pub below : ℕ
  pub rows : List Tuple
  pub batch : Option BatchValue

-- A check: the heads, and the place once it is found; the usersets that were walked, and those that wait.
pub record CheckHolds : Type 0 where
  pub heads : Option HeadsValue
  pub place : Option ℕ
  pub walked : List Userset
  pub waiting : List Userset
  pub batch : Option BatchValue

-- A watch, a shard's learning and its collection: the heads, and decisions on their way.
pub record HeadsHeld : Type 0 where
  pub heads : Option HeadsValue
  pub batch : Option BatchValue

-- what became of a write in doubt
pub data Resolved : Type 0 where
  committed : WriteId → ℕ → Resolved
  aborted : WriteId → Resolved
  undecided : WriteId → Resolved

-- A resolution: what was found of each write so far, a verdict on its way to the shard, and decisions on theirs.
pub record ResolveHolds : Type 0 where
  pub found : List Resolved
  pub verdict : Option WriteId
  pub batch : Option BatchValue

-- A raise of the horizon: the heads, what the shards have settled, decisions on their way, and whether the coordinator took it.
pub record RaiseHolds : Type 0 where
  pub heads : Option HeadsValue
  pub settled : List SettledValue
  pub batch : Option BatchValue
  pub is_raised : Bool

-- a write before it is begun
abbrev pub nothing_begun : WriteHolds
nothing_begun = record { way = onward; id = None; intent = None; tickets = []; votes = []; decided = None; batch = None; verdict = None }

-- neither heads nor decisions
abbrev pub no_heads : HeadsHeld
no_heads = record { heads = None; batch = None }

-- a read without a place
abbrev pub nothing_read : ReadHolds
nothing_read = record { heads = None; place = None; done = []; below = 0; rows = []; batch = None }

-- a raise that has asked no shard
abbrev pub nothing_raised : RaiseHolds
nothing_raised = record { heads = None; settled = []; batch = None; is_raised = false }
