-- The coordinator under its lock, as its callers see it, and what each of its calls leaves of it and tells.
use Rattle.std.specs.Prelude.{◌≡◌, Bool, true, false, ◌≤◌, ◌<◌, ◌-◌, ℕ, min, List, [], ◌∷◌, ◌++◌, length, Option, Some, None, Ok, slice_get}
use mathlib.Core.List.{IsPrefix}
use Rattle.tuples.specs.declared.entry.Entry.{Entry}
use Rattle.tuples.specs.declared.entry.WriteId.{WriteId}
use Rattle.tuples.specs.Limits.{max_batch}
use Rattle.tuples.specs.Writes.{WriteValue}
use Rattle.device.specs.Device.{State}
use Rattle.published.specs.Known.{Known}
use Rattle.decisions.specs.Coordinators.{CoordinatorView, IsRunning}
use Rattle.decisions.specs.Standing.{DecidedValue}
use Rattle.laws.specs.Worlds.{coordinator_node}
use Rattle.coordinator.specs.declared.telling.Inquiry.TheVariants.{Commit}
use Rattle.coordinator.specs.declared.telling.Outcome.TheVariants.{Kept, Later}
use Rattle.calls.specs.declared.call.NodeCall.TheVariants.{Coordinator}
use Rattle.calls.specs.declared.call.CoordinatorCall.{CoordinatorCall}
use Rattle.calls.specs.declared.call.CoordinatorCall.TheVariants as calls
use Rattle.calls.specs.declared.reply.Reply.{Reply}
use Rattle.calls.specs.declared.reply.Reply.TheVariants.{Coordinator as from_coordinator}
use Rattle.calls.specs.declared.reply.CoordinatorReply.TheVariants as told
use Rattle.calls.specs.Asking.{Answered, MayAsk}
use Rattle.calls.specs.Belonging.{IsReplyTo}
use Rattle.calls.specs.Views.{NodeView, coordinator, refused, shard}
use Rattle.ties.specs.DecidingLaws.{StandsAt, attempt}
use Rattle.ties.specs.TellingLaws.{IsBatchOf}
use Rattle.ties.specs.Ties.{Attempt, IsTied}
use Rattle.sides.specs.Joining.{nothing}
use Rattle.sides.specs.Sides.{IsLater}

-- The node, the whole list of writes, the horizon, and all decisions that were once staged. The node is always there; only while it is opened again it is
-- away.
pub record LogSide (D : Type 0) : Type 0 where
  pub node : Option (NodeView D)
  pub seen : List Entry
  pub low : ℕ
  pub tried : List Attempt

-- the list is as it was, and no decision more was staged
pub record HasSameList {D E : Type 0} (old : LogSide D) (new : LogSide E) : Type 0 where
  pub seen : new.seen ≡ old.seen
  pub low : new.low ≡ old.low
  pub tried : new.tried ≡ old.tried

-- the list is no shorter, and the horizon no lower; no decision more was staged
pub record HasLaterList {D E : Type 0} (old : LogSide D) (new : LogSide E) : Type 0 where
  pub seen : IsPrefix old.seen new.seen
  pub low : old.low ≤ new.low
  pub tried : new.tried ≡ old.tried

-- a call that needs the devices
abbrev pub is_log_flush : CoordinatorCall → Bool
is_log_flush calls.Flush = true
is_log_flush calls.Checkpoint = true
is_log_flush call = false

-- the write that a call has decided; of another call, one that was never made
abbrev pub write_of : CoordinatorCall → Entry
write_of (calls.Decide intent votes) = intent.write
write_of call = nothing

-- the decision of this write that a reply tells as staged
abbrev pub tried_by : Entry → Reply → List Attempt
tried_by w (from_coordinator (told.Decide (Ok decided))) = attempt decided w ∷ []
tried_by w reply = []

-- the list is as it was, and what the reply tells as staged is one decision more
pub record AddsTried {D : Type 0} (old : LogSide D) (w : Entry) (reply : Reply) (new : LogSide D) : Type 0 where
  pub seen : new.seen ≡ old.seen
  pub low : new.low ≡ old.low
  pub tried : new.tried ≡ old.tried ++ tried_by w reply

-- a caller's pass knows all decisions that were once staged, and what it knew
pub record KnowsTried {D : Type 0} (old : Known Attempt) (side : LogSide D) (new : Known Attempt) : Type 0 where
  pub table : new.table ≡ old.table
  pub was : IsPrefix old.seen new.seen
  pub all : new.seen ≡ side.tried

-- among these decisions, once staged, is one of this write
abbrev pub IsTried : List Attempt → DecidedValue → Entry → Type 0
IsTried tried decided w = (j : ℕ) × (slice_get tried j ≡ Some (attempt decided w))

-- a caller's pass knows all that there is, and what it knew
pub record KnowsAll {D : Type 0} (old : Known Entry) (side : LogSide D) (new : Known Entry) : Type 0 where
  pub later : IsLater old new
  pub seen : new.seen ≡ side.seen
  pub horizon : new.horizon ≡ side.low
  pub within : new.horizon ≤ length new.seen

-- the node is there, and it is the coordinator's, or its opening was refused. While it is up its honest devices have its records, whatever list these stand for.
pub record IsSound {D : Type 0} (state : D → State) (honest : D → Type 0) (store shards : ℕ) (v : CoordinatorView D) : Type 0 where
  pub running : v.is_down ≡ false → IsRunning state honest v
  pub honest_a : honest v.a
  pub honest_b : honest v.b
  pub me : v.me ≡ coordinator_node store shards

abbrev pub IsSoundThere : {D : Type 0} → (D → State) → (D → Type 0) → ℕ → ℕ → Option (NodeView D) → Type 0
IsSoundThere state honest store shards (Some (coordinator v)) = IsSound state honest store shards v
IsSoundThere state honest store shards (Some (refused e a b)) = honest a × honest b
IsSoundThere state honest store shards (Some (shard v)) = ⊥
IsSoundThere state honest store shards None = ⊥

-- the node is there, and may be asked this
abbrev pub MayAskThere : {D : Type 0} → Option (NodeView D) → CoordinatorCall → Type 0
MayAskThere (Some node) call = MayAsk node (Coordinator call)
MayAskThere None call = ⊥

module _ {D : Type 0} (state : D → State) (honest : D → Type 0) (moment : D → ℕ) (left_since : D → ℕ → List ℕ → Type 0) where
  -- the node was there, and has answered the call
  abbrev pub AnsweredThere : Option (NodeView D) → CoordinatorCall → Reply → Option (NodeView D) → Type 0
  AnsweredThere (Some old) call reply (Some new) = Answered state honest moment left_since old (Coordinator call) reply new
  AnsweredThere old call reply new = ⊥

  pub record CoordinatorSideAnswers (old : LogSide D) (call : CoordinatorCall) (reply : Reply) (new : LogSide D) : Type 0 where
    pub answered : AnsweredThere old.node call reply new.node
    pub belongs : IsReplyTo (Coordinator call) reply

-- a write that is begun is the one that was handed in, and knows how long the list is
abbrev pub TellsBegun : WriteValue → List Entry → Reply → Type 0
TellsBegun write seen (from_coordinator (told.Begin (Ok intent))) = (intent.kept ≡ length seen) × (intent.write.changes ≡ write.changes) × (intent.write.conditions ≡ write.conditions)
TellsBegun write seen reply = Unit {0}

-- Heads that are told are those of the list, and of the horizon. What is decided is no less.
abbrev pub TellsHeads : List Entry → ℕ → Reply → Type 0
TellsHeads seen low (from_coordinator (told.Heads (Ok heads))) = (heads.kept ≡ length seen) × (heads.horizon ≡ low) × (length seen ≤ heads.length)
TellsHeads seen low reply = Unit {0}

-- a batch that is told is of the list, from the place that was asked for, with as many writes as were asked for or as a batch may have
abbrev pub TellsBatch : List Entry → ℕ → ℕ → Reply → Type 0
TellsBatch seen from to (from_coordinator (told.Batch (Ok batch))) = IsBatchOf seen batch × (batch.from ≡ from) × (length batch.writes ≡ min (to - from) max_batch)
TellsBatch seen from to reply = Unit {0}

-- a write that is found by its id stands at its place in the list, its id once
abbrev pub TellsFound : List Entry → WriteId → Reply → Type 0
TellsFound seen id (from_coordinator (told.Inquire (Ok (Commit place)))) = (w : Entry) × (w.id ≡ id) × StandsAt place w seen
TellsFound seen id reply = Unit {0}

module _ {D : Type 0} (state : D → State) (honest : D → Type 0) (store shards : ℕ) where
  -- the node is there, and tied to the list and to decisions that were once staged
  abbrev pub IsTiedThere : Option (NodeView D) → List Entry → ℕ → List Attempt → Type 0
  IsTiedThere (Some node) seen low tried = IsTied state honest store shards node seen low tried
  IsTiedThere None seen low tried = ⊥

  -- the node is tied to the list, and to all decisions that were once staged
  abbrev pub IsTiedSide : LogSide D → Type 0
  IsTiedSide side = IsTiedThere side.node side.seen side.low side.tried

-- a decision that is staged is at a place above all that there is
abbrev pub TellsDecided : List Entry → Reply → Type 0
TellsDecided seen (from_coordinator (told.Decide (Ok decided))) = length seen < decided.place
TellsDecided seen reply = Unit {0}

-- A decision that is kept has its place. If it is known as one of a write, that write stands there in the list, its id once. One that is not kept yet comes back.
abbrev pub TellsKept : List Entry → List Attempt → DecidedValue → Reply → Type 0
TellsKept seen tried decided (from_coordinator (told.Outcome (Kept place))) = (place ≡ decided.place) × ((w : Entry) → IsTried tried decided w → StandsAt place w seen)
TellsKept seen tried decided (from_coordinator (told.Outcome (Later back))) = back ≡ decided
TellsKept seen tried decided reply = Unit {0}

-- what the reply to a call tells of the list, of its horizon, and of the decisions that were once staged
abbrev pub TellsOf : List Entry → ℕ → List Attempt → CoordinatorCall → Reply → Type 0
TellsOf seen low tried (calls.Begin write) reply = TellsBegun write seen reply
TellsOf seen low tried calls.Heads reply = TellsHeads seen low reply
TellsOf seen low tried (calls.Batch from to) reply = TellsBatch seen from to reply
TellsOf seen low tried (calls.Decide intent votes) reply = TellsDecided seen reply
TellsOf seen low tried (calls.Outcome decided) reply = TellsKept seen tried decided reply
TellsOf seen low tried (calls.Inquire id) reply = TellsFound seen id reply
TellsOf seen low tried call reply = Unit {0}
