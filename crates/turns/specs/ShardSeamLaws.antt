-- The seams between the contracts of a shard's calls, over its own records, and turns of a run.
use Rattle.std.specs.Prelude.{◌≡◌, ◌≢◌, ◌⊎◌, ◌≤◌, ◌<◌, ◌+◌, ◌==◌, ℕ, Bool, true, List, [], ◌∷◌, ◌++◌, length, Option, Some, None, Contains, if◌then◌else◌}
use Rattle.refusal.specs.Refusals.{IsOneOf}
use Rattle.tuples.specs.declared.change.Change.{Change}
use Rattle.tuples.specs.declared.change.Condition.{Condition}
use Rattle.tuples.specs.declared.entry.Entry.{Entry}
use Rattle.tuples.specs.declared.entry.WriteId.{WriteId}
use Rattle.tuples.specs.declared.tuple.Tuple.{Tuple}
use Rattle.tuples.specs.declared.tupleset.Tupleset.{Tupleset}
use Rattle.refusal.specs.declared.refusal.Refusal.{Refusal}
use Rattle.refusal.specs.declared.refusal.Refusal.TheVariants.{Aborted, Busy, Collected, Damaged, Full, NoMemory, Precondition, Unsure}
use Rattle.records.specs.declared.record.Record.{Record}
use Rattle.records.specs.declared.record.Record.TheVariants.{Horizon}
use Rattle.records.specs.Replays.{find_in_doubt, greatest_number}
use Rattle.device.specs.Device.{State}
use Rattle.journal.specs.Records.{HasNoRoom}
use Rattle.tuples.specs.Parts.{takes_part}
use Rattle.tuples.specs.Limits.{max_batch}
use Rattle.decisions.specs.Standing.{HeadsValue}
use Rattle.decisions.specs.Values.{BatchValue, IntentValue, IsIntent, SettledValue, TicketValue, VoteValue}
use Rattle.shard.specs.Calls.{CollectsAt, DoubtsAt, DropsAt, LearnRefused, LearnsAt, PrepareRefused, PreparesAt, ReadsAt, SettlesAt, VotesAt}
use Rattle.shard.specs.Shards.{IsUp, ShardView, memory}
use Rattle.laws.specs.Nodes.{NodeName, NodeState, Nodes, coordinator, shard, up}
use Rattle.laws.specs.Worlds.{shard_node}
use Rattle.stores.specs.Causes.{CallsShard, HasItsCause, LetsLearn}
use Rattle.stores.specs.Flows.{Freshness, HeadsHeld, HeldTicket, ReadHolds, RaiseHolds, ResolveHolds, WriteHolds, learning, onward, outward, raising, reading, resolving, to_collect, to_learn, to_raise, to_read, to_resolve, to_write, writing}
use Rattle.stores.specs.Held.{AreRightHeads, HoldsOf, IfHeld, IsRightBatch, WasGiven}
use Rattle.stores.specs.Moments.{Moment, Running}
use Rattle.stores.specs.ReadingLaws.{IsMerged, IsReading, NeedsOnly}
use Rattle.stores.specs.Replies.{done}
use Rattle.stores.specs.StagingLaws.{IsFlowOf}
use Rattle.stores.specs.Stands.{IsHorizonIn, Stands}
use Rattle.turns.specs.QuietTurns.{HoldsLess, batch_of, ending, going_on, with_batch, with_call}
use Rattle.turns.specs.Runs.{Turns, answered}
use Rattle.turns.specs.SeamLaws.{told_unless}

-- the nodes of a moment are as shard s of this store is seen, which is up
pub record ShardIsSeen {D : Type 0} (store shards s : ℕ) (nodes : Nodes) (v : ShardView D) : Type 0 where
  pub there : s < shards
  pub me : v.me ≡ shard_node store shards s
  pub at : nodes.at (shard s) ≡ up v.durable v.staged

-- a shard's state instead of the one that it had
abbrev pub at_shard : ℕ → NodeState → (NodeName → NodeState) → NodeName → NodeState
at_shard s state at coordinator = at coordinator
at_shard s state at (shard t) = if t == s then state else at (shard t)

-- the nodes after a call of shard s, which is up
abbrev pub behind_shard : {D : Type 0} → ℕ → Nodes → ShardView D → Nodes
behind_shard s nodes v = record nodes { at = at_shard s (up v.durable v.staged) nodes.at }

-- a ticket of shard s
abbrev pub held_ticket : ℕ → TicketValue → HeldTicket
held_ticket s t = record { shard = s; id = t.id; epoch = t.epoch }

-- a refusal of a prepare by a shard that is up
abbrev pub IsOfPrepare : Refusal → Type 0
IsOfPrepare e = IsOneOf e (Collected ∷ Busy ∷ Precondition ∷ Full ∷ NoMemory ∷ [])

-- a running flow of this write that has not decided, and what it holds
pub record IsHolder (now : Moment) (r : Running) (h : WriteHolds) (w : Entry) : Type 0 where
  pub flow : IsFlowOf now r w
  pub holds : r.holds ≡ writing h

-- The store has this id and this many shards, and a stop may leave this of each node, except for what is staged.
module _ (store shards : ℕ) (left : NodeName → List Record → Type 0) where
  -- the store stands after a turn in which a call left these nodes and its flow so
  abbrev pub StandsAndTurns : Moment → Nodes → Running → Running → Type 0
  StandsAndTurns now next r later =
      let ran = going_on now next now.machine later in
      Stands store shards left ran × Turns shards (IsHorizonIn store shards left now.nodes) now r (told_unless r.is_cancelled) ran

-- And this is what a device holds, and whether it is honest.
module _ (store shards : ℕ) (left : NodeName → List Record → Type 0) {D : Type 0} (state : D → State) (honest : D → Type 0) where
  -- a prepare, by the contract of the call alone, is a turn of a run, after which the flow holds one more ticket
  abbrev pub PrepareTurns : Type 0
  PrepareTurns = (now : Moment) (old new : ShardView D) (s : ℕ) (w : Entry) (t : TicketValue) (r : Running) (h : WriteHolds)
      → Stands store shards left now → ShardIsSeen store shards s now.nodes old → IsHolder now r h w → takes_part shards s w ≡ true → PreparesAt state honest old w t new
      → let next = behind_shard s now.nodes new in
      ShardIsSeen store shards s next new
      × StandsAndTurns store shards left now next r (with_call r (writing (record h { tickets = h.tickets ++ held_ticket s t ∷ [] })) r.met now.machine)

  -- so is one that is refused: the write, which is on its way and holds nothing of this shard, goes out with the refusal, which has its cause
  abbrev pub RefusedPrepareTurns : Type 0
  RefusedPrepareTurns = (now : Moment) (old : ShardView D) (s : ℕ) (w : Entry) (e : Refusal) (r : Running) (h : WriteHolds)
      → Stands store shards left now → ShardIsSeen store shards s now.nodes old → IsHolder now r h w → takes_part shards s w ≡ true → IsIntent w
      → h.way ≡ onward → (HoldsOf h s → ⊥) → PrepareRefused old w e → IsOfPrepare e
      → StandsAndTurns store shards left now now.nodes r (with_call r (writing (record h { way = outward (Some e) })) (Some e) now.machine)

  -- a vote for a ticket that the flow holds is a turn of a run, after which it holds the vote instead of the ticket
  abbrev pub VoteTurns : Type 0
  VoteTurns = (now : Moment) (old : ShardView D) (s : ℕ) (w : Entry) (t : TicketValue) (v : VoteValue) (r : Running) (h : WriteHolds) (rest : List HeldTicket)
      → Stands store shards left now → ShardIsSeen store shards s now.nodes old → IsHolder now r h w
      → Contains h.tickets (held_ticket s t) → ((x : HeldTicket) → Contains rest x → Contains h.tickets x)
      → ((x : HeldTicket) → Contains h.tickets x → (x ≡ held_ticket s t) ⊎ Contains rest x) → IsUp state honest old → VotesAt state old t v
      → StandsAndTurns store shards left now now.nodes r (with_call r (writing (record h { tickets = rest; votes = h.votes ++ v ∷ [] })) r.met now.machine)

  -- so is one that is refused: the ticket is spent, and the write goes out with Aborted, which has its cause
  abbrev pub RefusedVoteTurns : Type 0
  RefusedVoteTurns = (now : Moment) (old : ShardView D) (s : ℕ) (w : Entry) (t : TicketValue) (intent : IntentValue) (r : Running) (h : WriteHolds) (rest : List HeldTicket)
      → Stands store shards left now → ShardIsSeen store shards s now.nodes old → IsHolder now r h w → h.intent ≡ Some intent
      → Contains h.tickets (held_ticket s t) → ((x : HeldTicket) → Contains rest x → Contains h.tickets x) → find_in_doubt t.id (memory old).in_doubt ≡ None
      → StandsAndTurns store shards left now now.nodes r (with_call r (writing (record h { way = outward (Some Aborted); tickets = rest })) (Some Aborted) now.machine)

  -- the learning of decisions that a flow holds is a turn of a run, after which it holds these or others, or none
  abbrev pub LearnTurns : Type 0
  LearnTurns = (now : Moment) (old new : ShardView D) (s : ℕ) (b : BatchValue) (all : Bool) (kept : Option BatchValue) (r : Running)
      → Stands store shards left now → ShardIsSeen store shards s now.nodes old → Contains now.running r → batch_of r.holds ≡ Some b → LearnsAt state honest old b all new
      → IfHeld kept (IsRightBatch now.machine)
      → let next = behind_shard s now.nodes new in
      ShardIsSeen store shards s next new × StandsAndTurns store shards left now next r (with_call r (with_batch kept r.holds) r.met now.machine)

  -- a refusal of them has its cause, and is never Damaged; the flow calls this shard, and lets it learn
  abbrev pub RefusedLearnsHaveCause : Type 0
  RefusedLearnsHaveCause = (now behind : Moment) (old : ShardView D) (s : ℕ) (b : BatchValue) (e : Refusal) (r : Running)
      → Stands store shards left now → ShardIsSeen store shards s now.nodes old → Contains now.running r → batch_of r.holds ≡ Some b
      → IsUp state honest old → length b.writes ≤ max_batch → b.from + length b.writes ≤ greatest_number → CallsShard shards r.asked r.holds s → LetsLearn r.asked
      → LearnRefused old b e → IsOneOf e (NoMemory ∷ Full ∷ Damaged ∷ [])
      → HasItsCause shards (shard s) now behind r e × (e ≢ Unsure)

  -- a learning that holds right heads is done if the shard learns up to their kept place
  abbrev pub LearnAnswers : Type 0
  LearnAnswers = (now : Moment) (old new : ShardView D) (s : ℕ) (b : BatchValue) (heads : HeadsValue) (r : Running) (h : HeadsHeld)
      → Stands store shards left now → ShardIsSeen store shards s now.nodes old → Contains now.running r → r.asked ≡ to_learn s → r.holds ≡ learning h → h.heads ≡ Some heads
      → h.batch ≡ Some b → LearnsAt state honest old b true new → heads.kept ≤ b.from + length b.writes
      → let next = behind_shard s now.nodes new in let ran = ending now next now.machine r [] in
      ShardIsSeen store shards s next new × Stands store shards left ran × Turns shards (IsHorizonIn store shards left now.nodes) now r (answered done ∷ []) ran

  -- a drop by a verdict that a write flow holds is a turn of a run, after which it may have spent a ticket, a vote or the verdict
  abbrev pub DropTurns : Type 0
  DropTurns = (now : Moment) (old new : ShardView D) (s : ℕ) (id : WriteId) (changes : List Change) (conditions : List Condition) (r : Running) (h k : WriteHolds)
      → Stands store shards left now → ShardIsSeen store shards s now.nodes old → Contains now.running r → r.asked ≡ to_write changes conditions → r.holds ≡ writing h
      → h.verdict ≡ Some id → HoldsLess h k → k.way ≡ h.way → DropsAt state honest old id new
      → let next = behind_shard s now.nodes new in
      ShardIsSeen store shards s next new × StandsAndTurns store shards left now next r (with_call r (writing k) r.met now.machine)

  -- so is one by a verdict that a resolution holds
  abbrev pub ResolvedDropTurns : Type 0
  ResolvedDropTurns = (now : Moment) (old new : ShardView D) (s t : ℕ) (id : WriteId) (r : Running) (h : ResolveHolds)
      → Stands store shards left now → ShardIsSeen store shards s now.nodes old → Contains now.running r → r.asked ≡ to_resolve t → r.holds ≡ resolving h
      → h.verdict ≡ Some id → DropsAt state honest old id new
      → let next = behind_shard s now.nodes new in
      ShardIsSeen store shards s next new × StandsAndTurns store shards left now next r (with_call r (resolving (record h { verdict = None })) r.met now.machine)

  -- each id that a shard reports as in doubt was given out
  abbrev pub ToldDoubtsAreGiven : Type 0
  ToldDoubtsAreGiven = (now : Moment) (old : ShardView D) (s : ℕ) (told : List WriteId) (id : WriteId) → Stands store shards left now → ShardIsSeen store shards s now.nodes old
      → DoubtsAt old told → Contains told id → WasGiven shards left now.nodes id

  -- a read of the next shard's rows, for the tupleset that a flow reads, is a turn of a run, after which it holds these too; a stop leaves some records
  -- of the coordinator
  abbrev pub ReadTurns : Type 0
  ReadTurns = (now : Moment) (old : ShardView D) (fresh : Freshness) (sets : List Tupleset) (place : ℕ) (q : Tupleset) (rows merged : List Tuple) (r : Running) (h : ReadHolds)
      → Stands store shards left now → ((found : List Record) × left coordinator found) → ShardIsSeen store shards h.below now.nodes old
      → Contains now.running r → r.asked ≡ to_read fresh sets → r.holds ≡ reading h → IsReading sets h place q → ReadsAt old place q rows → IsMerged h.rows rows merged
      → StandsAndTurns store shards left now now.nodes r (with_call r (reading (record h { below = h.below + 1; rows = merged })) r.met now.machine)

  -- so is a read of the one shard that has them all
  abbrev pub ReadOneTurns : Type 0
  ReadOneTurns = (now : Moment) (old : ShardView D) (s : ℕ) (fresh : Freshness) (sets : List Tupleset) (place : ℕ) (q : Tupleset) (rows : List Tuple) (r : Running) (h : ReadHolds)
      → Stands store shards left now → ((found : List Record) × left coordinator found) → ShardIsSeen store shards s now.nodes old
      → Contains now.running r → r.asked ≡ to_read fresh sets → r.holds ≡ reading h → IsReading sets h place q → NeedsOnly shards q s → ReadsAt old place q rows
      → StandsAndTurns store shards left now now.nodes r (with_call r (reading (record h { done = h.done ++ rows ∷ []; below = 0; rows = [] })) r.met now.machine)

  -- a refusal of a read at the place that the flow reads has its cause
  abbrev pub RefusedReadsHaveCause : Type 0
  RefusedReadsHaveCause = (now behind : Moment) (old : ShardView D) (s : ℕ) (fresh : Freshness) (sets : List Tupleset) (place : ℕ) (e : Refusal) (r : Running) (h : ReadHolds)
      → Stands store shards left now → ShardIsSeen store shards s now.nodes old → Contains now.running r → r.asked ≡ to_read fresh sets → r.holds ≡ reading h → h.place ≡ Some place
      → ((e ≡ Collected) × (place < (memory old).horizon)) ⊎ (e ≡ NoMemory) → HasItsCause shards (shard s) now behind r e × (e ≢ Unsure)

  -- what a shard has settled, at or above the place of a raise, is a turn of a run, after which the raise holds it too
  abbrev pub SettleTurns : Type 0
  SettleTurns = (now : Moment) (old : ShardView D) (s x : ℕ) (v : SettledValue) (r : Running) (h : RaiseHolds)
      → Stands store shards left now → ShardIsSeen store shards s now.nodes old → Contains now.running r → r.asked ≡ to_raise x → r.holds ≡ raising h → x ≤ v.place
      → SettlesAt state old v
      → StandsAndTurns store shards left now now.nodes r (with_call r (raising (record h { settled = h.settled ++ v ∷ [] })) r.met now.machine)

  -- a collection up to the horizon of right heads is a turn of a run, with which the flow is done
  abbrev pub CollectTurns : Type 0
  CollectTurns = (now : Moment) (old new : ShardView D) (s t : ℕ) (heads : HeadsValue) (r : Running)
      → Stands store shards left now → ShardIsSeen store shards s now.nodes old → Contains now.running r → r.asked ≡ to_collect t → AreRightHeads r now.machine heads
      → CollectsAt state honest old heads.horizon new
      → let next = behind_shard s now.nodes new in let ran = ending now next now.machine r [] in
      ShardIsSeen store shards s next new × Stands store shards left ran × Turns shards (IsHorizonIn store shards left now.nodes) now r (answered done ∷ []) ran

  -- and if the shard's batch has no room for it, that is its cause
  abbrev pub RefusedCollectsHaveCause : Type 0
  RefusedCollectsHaveCause = (now behind : Moment) (old : ShardView D) (s : ℕ) (heads : HeadsValue) (r : Running)
      → Stands store shards left now → ShardIsSeen store shards s now.nodes old → r.asked ≡ to_collect s → IsUp state honest old
      → heads.horizon ≤ (memory old).learned → HasNoRoom old.staged (Horizon heads.horizon) → HasItsCause shards (shard s) now behind r Full
