-- Laws of quiet turns. A quiet call decides nothing, and gives and closes no id: each call but begin, decide, abort and an opening. With the nodes as
-- the call left them, and what the flow holds then right, the store stands, and the turn is one of a run.
use Rattle.std.specs.Prelude.{◌≡◌, ◌≢◌, ◌⊎◌, ℕ, true, false, List, [], ◌∷◌, ◌++◌, Option, Some, None, Contains, All}
use Rattle.tuples.specs.declared.change.Change.{Change}
use Rattle.tuples.specs.declared.change.Condition.{Condition}
use Rattle.tuples.specs.declared.entry.WriteId.{WriteId}
use Rattle.refusal.specs.declared.refusal.Refusal.{Refusal}
use Rattle.refusal.specs.declared.refusal.Refusal.TheVariants.{Down, Unsure}
use Rattle.records.specs.declared.record.Record.{Record}
use Rattle.decisions.specs.Values.{BatchValue, IntentValue}
use Rattle.laws.specs.Machines.{Machine, Move, Moves}
use Rattle.laws.specs.Nodes.{NodeName, NodeTurns, Nodes, SameBut, down, refused}
use Rattle.stores.specs.Causes.{Calls, HasItsCause}
use Rattle.stores.specs.Flows.{HeldTicket, HeldVote, Holds, WriteHolds, checking, collecting, flushing, id_of, learning, onward, outward, raising, reading, resolving, to_write, watching, writing}
use Rattle.stores.specs.Held.{IfHeld, IsRight, IsRightBatch, IsRightVerdict}
use Rattle.stores.specs.Moments.{Moment, Running, ended, is_write, replaced}
use Rattle.stores.specs.Replies.{Answer, Agrees}
use Rattle.stores.specs.Stands.{IsHorizonIn, Stands}
use Rattle.turns.specs.Runs.{IsQuiet, KeepsOpen, MayRise, Turns, answered, refuses, told_by}
use Rattle.turns.specs.SeamLaws.{told_unless}

-- the moment after a call, with the flows as they were
abbrev pub behind_call : Moment → Nodes → Machine → Moment
behind_call now next m = record now { nodes = next; machine = m }

-- the flow that called: what it holds and has met now, and one more machine that it has seen
abbrev pub with_call : Running → Holds → Option Refusal → Machine → Running
with_call r holds met m = record r { holds = holds; met = met; seen = r.seen ++ m ∷ [] }

-- it goes on in its slot
abbrev pub going_on : Moment → Nodes → Machine → Running → Moment
going_on now next m later = record now { nodes = next; machine = m; running = replaced later now.running }

-- it ends, and someone is told that these ids are aborted
abbrev pub ending : Moment → Nodes → Machine → Running → List WriteId → Moment
ending now next m r ids = record now { nodes = next; machine = m; running = ended r.slot now.running; told = ids ++ now.told }

-- what the flow holds, with these decisions on their way to a shard, or none
abbrev pub with_batch : Option BatchValue → Holds → Holds
with_batch b (writing h) = writing (record h { batch = b })
with_batch b (reading h) = reading (record h { batch = b })
with_batch b (checking h) = checking (record h { batch = b })
with_batch b (watching h) = watching (record h { batch = b })
with_batch b flushing = flushing
with_batch b (learning h) = learning (record h { batch = b })
with_batch b (resolving h) = resolving (record h { batch = b })
with_batch b (raising h) = raising (record h { batch = b })
with_batch b (collecting h) = collecting (record h { batch = b })

-- the decisions that it holds on their way
abbrev pub batch_of : Holds → Option BatchValue
batch_of (writing h) = h.batch
batch_of (reading h) = h.batch
batch_of (checking h) = h.batch
batch_of (watching h) = h.batch
batch_of flushing = None
batch_of (learning h) = h.batch
batch_of (resolving h) = h.batch
batch_of (raising h) = h.batch
batch_of (collecting h) = h.batch

-- what a write flow holds, with some of it spent; where it goes is not said here, except that on its way to the decision it keeps what shards gave
pub record HoldsLess (old new : WriteHolds) : Type 0 where
  pub id : new.id ≡ old.id
  pub intent : (i : IntentValue) → new.intent ≡ Some i → old.intent ≡ Some i
  pub tickets : (t : HeldTicket) → Contains new.tickets t → Contains old.tickets t
  pub votes : (v : HeldVote) → Contains new.votes v → Contains old.votes v
  pub decided : new.decided ≡ old.decided
  pub batch : (b : BatchValue) → new.batch ≡ Some b → old.batch ≡ Some b
  pub verdict : (id : WriteId) → new.verdict ≡ Some id → old.verdict ≡ Some id
  pub gave : new.way ≡ onward → (old.way ≡ onward) × (new.tickets ≡ old.tickets) × (new.votes ≡ old.votes)

-- a node answers each call with this: Down if it is down, or what its opening was refused for
abbrev pub IsAway : Nodes → NodeName → Refusal → Type 0
IsAway nodes n e = ((nodes.at n ≡ down) × (e ≡ Down)) ⊎ (nodes.at n ≡ refused e)

-- after a call of this node the flow has met what it had met, or a refusal that has its cause there
abbrev pub HasMet : ℕ → NodeName → Moment → Moment → Running → Option Refusal → Type 0
HasMet shards n before after r met = (met ≡ r.met) ⊎ ((e : Refusal) × (met ≡ Some e) × HasItsCause shards n before after r e)

-- The store has this id and this many shards, and a stop may leave this of each node, before the call and after it, except for what is staged.
module _ (store shards : ℕ) (left after : NodeName → List Record → Type 0) where
  -- A quiet call leaves the store standing with the flows as they were. It changes one node as a call may, and of the machine no more than a turn in which
  -- nothing is decided.
  pub record IsQuietCall (now : Moment) (next : Nodes) (m : Machine) : Type 0 where
    pub stands : Stands store shards after (behind_call now next m)
    pub moves : List Move
    pub machine : Moves now.machine moves m
    pub quiet : All (IsQuiet (MayRise shards (IsHorizonIn store shards left now.nodes) now)) moves
    pub node : NodeName
    pub others : SameBut node now.nodes next
    pub called : NodeTurns node (now.nodes.at node) (next.at node)
    pub open_writes : KeepsOpen now.nodes next

  -- the call was quiet, and the flow that made it holds what is right, under the id that it had
  pub record IsQuietStep (now : Moment) (next : Nodes) (m : Machine) (r later : Running) : Type 0 where
    pub call : IsQuietCall now next m
    pub running : Contains now.running r
    pub same_id : id_of later.holds ≡ id_of r.holds
    pub right : IsRight shards after (behind_call now next m) later r.asked later.holds

  -- the flow goes on, and tells so unless it was cancelled
  abbrev pub QuietCallsTurn : Type 0
  QuietCallsTurn = (now : Moment) (next : Nodes) (m : Machine) (r : Running) (holds : Holds) (met : Option Refusal)
      → let later = with_call r holds met m in let ran = going_on now next m later in
      (step : IsQuietStep now next m r later) → HasMet shards step.call.node now ran r met
      → Stands store shards after ran × Turns shards (IsHorizonIn store shards left now.nodes) now r (told_unless r.is_cancelled) ran

  -- it goes on with what it held, except for the decisions on their way: those that it holds now are the log's and kept
  abbrev pub QuietCallsKeep : Type 0
  QuietCallsKeep = (now : Moment) (next : Nodes) (m : Machine) (r : Running) (b : Option BatchValue) → IsQuietCall now next m → Contains now.running r → IfHeld b (IsRightBatch m)
      → let ran = going_on now next m (with_call r (with_batch b r.holds) r.met m) in
      Stands store shards after ran × Turns shards (IsHorizonIn store shards left now.nodes) now r (told_unless r.is_cancelled) ran

  -- it ends with an answer that agrees
  abbrev pub QuietCallsAnswer : Type 0
  QuietCallsAnswer = (now : Moment) (next : Nodes) (m : Machine) (r : Running) (holds : Holds) (answer : Answer) → IsQuietCall now next m → Contains now.running r
      → id_of holds ≡ id_of r.holds → r.is_cancelled ≡ false
      → let later = with_call r holds r.met m in let ran = ending now next m r (told_by answer) in
      Agrees later ran r.asked answer → All (IsRightVerdict shards after (behind_call now next m)) (told_by answer)
      → Stands store shards after ran × Turns shards (IsHorizonIn store shards left now.nodes) now r (answered answer ∷ []) ran

  -- it ends with a refusal: with Unsure only if it has decided, and then with no other
  abbrev pub QuietCallsRefuse : Type 0
  QuietCallsRefuse = (now : Moment) (next : Nodes) (m : Machine) (r : Running) (e : Refusal) → (call : IsQuietCall now next m) → Contains now.running r
      → r.is_cancelled ≡ false → (r.decided ≡ None → e ≢ Unsure) → (e ≢ Unsure → r.decided ≡ None)
      → let ran = ending now next m r [] in
      HasMet shards call.node now ran r (Some e)
      → Stands store shards after ran × Turns shards (IsHorizonIn store shards left now.nodes) now r (refuses e ∷ []) ran

  -- a flow that was cancelled ends, and tells nothing
  abbrev pub QuietCallsEnd : Type 0
  QuietCallsEnd = (now : Moment) (next : Nodes) (m : Machine) (r : Running) → IsQuietCall now next m → Contains now.running r → r.is_cancelled ≡ true
      → let ran = ending now next m r [] in
      Stands store shards after ran × Turns shards (IsHorizonIn store shards left now.nodes) now r [] ran

  -- a write flow goes on its way, and may have spent some of what it held
  abbrev pub WritesSpend : Type 0
  WritesSpend = (now : Moment) (next : Nodes) (m : Machine) (r : Running) (h k : WriteHolds) (changes : List Change) (conditions : List Condition)
      → IsQuietCall now next m → Contains now.running r → r.asked ≡ to_write changes conditions → r.holds ≡ writing h → HoldsLess h k → k.way ≡ h.way
      → let ran = going_on now next m (with_call r (writing k) r.met m) in
      Stands store shards after ran × Turns shards (IsHorizonIn store shards left now.nodes) now r (told_unless r.is_cancelled) ran

  -- a write that is not decided goes out with a refusal that has its cause, and may have spent some of what it held
  abbrev pub RefusedWritesGoOut : Type 0
  RefusedWritesGoOut = (now : Moment) (next : Nodes) (m : Machine) (r : Running) (h k : WriteHolds) (changes : List Change) (conditions : List Condition) (e : Refusal)
      → (call : IsQuietCall now next m) → Contains now.running r → r.asked ≡ to_write changes conditions → r.holds ≡ writing h → HoldsLess h k → k.way ≡ outward (Some e)
      → r.decided ≡ None
      → let ran = going_on now next m (with_call r (writing k) (Some e) m) in
      HasItsCause shards call.node now ran r e
      → Stands store shards after ran × Turns shards (IsHorizonIn store shards left now.nodes) now r (told_unless r.is_cancelled) ran

  -- a flow other than a write ends with a refusal that has its cause
  abbrev pub RefusedFlowsEnd : Type 0
  RefusedFlowsEnd = (now : Moment) (next : Nodes) (m : Machine) (r : Running) (e : Refusal) → (call : IsQuietCall now next m) → Contains now.running r
      → is_write r.asked ≡ false → e ≢ Unsure
      → let ran = ending now next m r [] in
      HasItsCause shards call.node now ran r e
      → Stands store shards after ran × Turns shards (IsHorizonIn store shards left now.nodes) now r (refuses e ∷ []) ran

  -- what a node that is away answers has its cause, and is not Unsure
  abbrev pub AwayNodesHaveCause : Type 0
  AwayNodesHaveCause = (now behind : Moment) (r : Running) (n : NodeName) (e : Refusal) → Stands store shards left now → behind.nodes ≡ now.nodes
      → Calls shards r.asked r.holds n → IsAway now.nodes n e → HasItsCause shards n now behind r e × (e ≢ Unsure)
