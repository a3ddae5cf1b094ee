-- The seams between the contracts of the coordinator's calls, over its own records, and turns of a run.
use Rattle.std.specs.Prelude.{◌≡◌, ◌≤◌, ◌<◌, ℕ, Bool, true, false, List, [], ◌∷◌, map, Some, None, Contains}
use Rattle.tuples.specs.declared.change.Change.{Change}
use Rattle.tuples.specs.declared.change.Condition.{Condition}
use Rattle.tuples.specs.declared.entry.Entry.{Entry}
use Rattle.refusal.specs.declared.refusal.Refusal.{Refusal}
use Rattle.records.specs.declared.record.Record.{Record}
use Rattle.records.specs.Replays.{without}
use Rattle.decisions.specs.Coordinators.{AbortsAt, BeginsAt, BeginsRefused, CoordinatorView, DecidesAt, HaveVoted}
use Rattle.decisions.specs.Standing.{DecidedValue}
use Rattle.decisions.specs.Values.{IntentValue}
use Rattle.laws.specs.Nodes.{NodeName, NodeState, Nodes, coordinator, shard, up}
use Rattle.stores.specs.DecidingLaws.{IsDecider, with_decided, with_decision}
use Rattle.stores.specs.AbortLaws.{IsUndecidedFlow, with_closed, with_verdict}
use Rattle.stores.specs.Causes.{IsCause}
use Rattle.stores.specs.FlowLaws.{with_intent, with_open}
use Rattle.stores.specs.Flows.{WriteHolds, to_write, writing}
use Rattle.stores.specs.Moments.{Moment, Running, replaced}
use Rattle.stores.specs.Stands.{IsHorizonIn, Stands}
use Rattle.turns.specs.Runs.{Told, Turns, goes_on}

-- the nodes of a moment are as a coordinator that is up is seen: the entries of the open writes are the moment's alone
pub record IsSeen {D : Type 0} (nodes : Nodes) (v : CoordinatorView D) : Type 0 where
  pub at : nodes.at coordinator ≡ up v.durable v.staged
  pub open_writes : map (λ (w : Entry). w.id) nodes.open_writes ≡ v.open_ids
  pub given : nodes.given ≡ v.given

-- the coordinator's state instead of the one that it had
abbrev pub at_coordinator : NodeState → (NodeName → NodeState) → NodeName → NodeState
at_coordinator state at coordinator = state
at_coordinator state at (shard s) = at (shard s)

-- the nodes after a call of the coordinator, which is up
abbrev pub behind : {D : Type 0} → Nodes → CoordinatorView D → List Entry → Nodes
behind nodes v open_writes = record { at = at_coordinator (up v.durable v.staged) nodes.at; open_writes = open_writes; given = v.given }

-- a decision of a flow that holds votes of all participants, by the contract of the call alone, is a turn of a run: it leaves the store standing,
-- over nodes that are seen as the call left them
abbrev pub DecideTurns : ℕ → ℕ → (NodeName → List Record → Type 0) → Type 0 → Type 0
DecideTurns store shards left D = (now : Moment) (old new : CoordinatorView D) (w : Entry) (d : DecidedValue) (r : Running) (h : WriteHolds) (intent : IntentValue)
    → Stands store shards left now → 1 ≤ shards → ((s : ℕ) → s < shards → (found : List Record) × left (shard s) found)
    → IsSeen now.nodes old → DecidesAt old w d new
    → IsDecider store shards left now r h w → h.intent ≡ Some intent → HaveVoted shards w h.votes
    → let next = behind now.nodes new (without w.id now.nodes.open_writes) in
    let after = record (with_decision now next w) { running = replaced (with_decided store shards left now r h w) now.running } in
    IsSeen next new × Stands store shards left after × Turns shards (IsHorizonIn store shards left now.nodes) now r (goes_on ∷ []) after

-- a running write flow that has not begun, and is not cancelled
pub record IsBeginner (now : Moment) (r : Running) (h : WriteHolds) (changes : List Change) (conditions : List Condition) : Type 0 where
  pub running : Contains now.running r
  pub asked : r.asked ≡ to_write changes conditions
  pub holds : r.holds ≡ writing h
  pub unbegun : h.id ≡ None
  pub undecided : r.decided ≡ None
  pub goes_on : r.is_cancelled ≡ false

-- a write that is begun, by the contract of the call alone, is a turn of a run
abbrev pub BeginTurns : ℕ → ℕ → (NodeName → List Record → Type 0) → Type 0 → Type 0
BeginTurns store shards left D = (now : Moment) (old new : CoordinatorView D) (changes : List Change) (conditions : List Condition) (i : IntentValue) (r : Running) (h : WriteHolds)
    → Stands store shards left now → IsSeen now.nodes old → BeginsAt old changes conditions i new → IsBeginner now r h changes conditions
    → let next = with_open store shards left now.nodes i.write in
    let later = with_intent store shards left now r h i.write in
    let after = record now { nodes = next; running = replaced later now.running } in
    IsSeen next new × (later.holds ≡ writing (record h { id = Some i.write.id; intent = Some i })) × Stands store shards left after
    × Turns shards (IsHorizonIn store shards left now.nodes) now r (goes_on ∷ []) after

-- each refusal of begin has its cause
abbrev pub BeginHasCause : ℕ → ℕ → (NodeName → List Record → Type 0) → Type 0 → Type 0
BeginHasCause store shards left D = (now after : Moment) (old : CoordinatorView D) (changes : List Change) (conditions : List Condition) (e : Refusal) (r : Running)
    → Stands store shards left now → IsSeen now.nodes old → r.asked ≡ to_write changes conditions → BeginsRefused old conditions e → IsCause shards coordinator now after r e

-- what a turn in which its flow goes on tells: nothing if the flow was cancelled
abbrev pub told_unless : Bool → List Told
told_unless true = []
told_unless false = goes_on ∷ []

-- a write that is aborted, by the contract of the call alone, is a turn of a run, after which its flow has the verdict
abbrev pub AbortTurns : ℕ → ℕ → (NodeName → List Record → Type 0) → Type 0 → Type 0
AbortTurns store shards left D = (now : Moment) (old new : CoordinatorView D) (r : Running) (h : WriteHolds) (w : Entry) → Stands store shards left now → IsSeen now.nodes old → AbortsAt old w.id new
    → IsUndecidedFlow now r h w
    → let next = with_closed now.nodes w.id in
    let after = record now { nodes = next; running = replaced (with_verdict now r h w) now.running } in
    IsSeen next new × Stands store shards left after × Turns shards (IsHorizonIn store shards left now.nodes) now r (told_unless r.is_cancelled) after
