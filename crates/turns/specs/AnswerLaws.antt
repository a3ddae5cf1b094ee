-- Laws of the ends of flows: if the last call was quiet, and what the flow holds after it is right, its answer agrees, in a turn of a run. Of the
-- premises, that the call was quiet is the node's; what the flow is asked and holds is the flow's.
use Rattle.std.specs.Prelude.{◌≡◌, ◌≢◌, ◌≤◌, ◌+◌, ◌-◌, ℕ, min, true, false, List, [], ◌∷◌, ◌++◌, length, Some, All, Contains}
use Rattle.refusal.specs.declared.refusal.Refusal.{Refusal}
use Rattle.refusal.specs.declared.refusal.Refusal.TheVariants.{Down, Unsure}
use Rattle.tuples.specs.declared.change.Change.{Change}
use Rattle.tuples.specs.declared.change.Condition.{Condition}
use Rattle.tuples.specs.declared.object.Userset.{Userset}
use Rattle.tuples.specs.declared.tuple.Tuple.{Tuple}
use Rattle.tuples.specs.declared.tupleset.Tupleset.{Tupleset}
use Rattle.tuples.specs.declared.user.User.{User}
use Rattle.tuples.specs.Checking.{holding}
use Rattle.tuples.specs.Log.{is_at}
use Rattle.tuples.specs.Walking.{IsCheckSelection}
use Rattle.tuples.specs.Watching.{events_from}
use Rattle.records.specs.declared.record.Record.{Record}
use Rattle.records.specs.Replays.{ShardState}
use Rattle.decisions.specs.Standing.{HeadsValue}
use Rattle.decisions.specs.Values.{BatchValue}
use Rattle.laws.specs.Machines.{Machine}
use Rattle.laws.specs.Nodes.{NodeName, Nodes, ShardKnows, coordinator}
use Rattle.stores.specs.Causes.{Calls, HasItsCause}
use Rattle.stores.specs.Flows.{CheckHolds, Freshness, RaiseHolds, ReadHolds, Resolved, WriteHolds, outward, raising, to_check, to_collect, to_learn, to_raise, to_read, to_resolve, to_watch, to_write, writing}
use Rattle.stores.specs.FlushLaws.{FailsFlush, FlushesCoordinator, all_kept}
use Rattle.stores.specs.Held.{AreRightHeads, IsRightBatch, IsRightCheck, IsRightRead, IsRightResolved}
use Rattle.stores.specs.Moments.{Moment, Running}
use Rattle.stores.specs.Replies.{Answer, checked, done, listed, resolved, selected}
use Rattle.stores.specs.Stands.{IsHorizonIn, Stands}
use Rattle.turns.specs.QuietTurns.{IsQuietCall, behind_call, ending, with_call}
use Rattle.turns.specs.Runs.{Turns, answered, refuses, told_by}

-- the flow that has seen one more machine
abbrev pub having_seen : Running → Machine → Running
having_seen r m = with_call r r.holds r.met m

-- The store has this id and this many shards, and a stop may leave this of each node, before the call and after it, except for what is staged.
module _ (store shards : ℕ) (left after : NodeName → List Record → Type 0) where
  -- the flow ends with this answer, in a turn of a run
  abbrev pub EndsWith : Moment → Nodes → Machine → Running → Answer → Type 0
  EndsWith now next m r answer =
      let ran = ending now next m r (told_by answer) in
      Stands store shards after ran × Turns shards (IsHorizonIn store shards left now.nodes) now r (answered answer ∷ []) ran

  -- a read that has done all its tuplesets
  abbrev pub ReadsAnswer : Type 0
  ReadsAnswer = (now : Moment) (next : Nodes) (m : Machine) (r : Running) (fresh : Freshness) (sets : List Tupleset) (h : ReadHolds) (place : ℕ) → IsQuietCall store shards left after now next m
      → Contains now.running r → r.asked ≡ to_read fresh sets → IsRightRead shards after (behind_call now next m) (having_seen r m) fresh sets h
      → h.place ≡ Some place → length h.done ≡ length sets → EndsWith now next m r (selected place h.done)

  -- a check that finds that a waiting userset holds its user
  abbrev pub ChecksAnswerYes : Type 0
  ChecksAnswerYes = (now : Moment) (next : Nodes) (m : Machine) (r : Running) (fresh : Freshness) (x : Userset) (u : User) (h : CheckHolds) (place : ℕ) (y : Userset) (rows : List Tuple)
      → IsQuietCall store shards left after now next m → Contains now.running r → r.asked ≡ to_check fresh x u
      → IsRightCheck shards after (behind_call now next m) (having_seen r m) fresh x u h → h.place ≡ Some place → Contains h.waiting y
      → IsCheckSelection (is_at m.log place) y u rows → Contains rows (holding y u) → EndsWith now next m r (checked place true)

  -- a check with no userset waiting
  abbrev pub ChecksAnswerNo : Type 0
  ChecksAnswerNo = (now : Moment) (next : Nodes) (m : Machine) (r : Running) (fresh : Freshness) (x : Userset) (u : User) (h : CheckHolds) (place : ℕ)
      → IsQuietCall store shards left after now next m → Contains now.running r → r.asked ≡ to_check fresh x u
      → IsRightCheck shards after (behind_call now next m) (having_seen r m) fresh x u h → h.place ≡ Some place → h.waiting ≡ [] → EndsWith now next m r (checked place false)

  -- a watch that has the decisions from its cursor on, as many as its limit or its heads allow
  abbrev pub WatchesAnswer : Type 0
  WatchesAnswer = (now : Moment) (next : Nodes) (m : Machine) (r : Running) (c limit : ℕ) (names : List (List ℕ)) (heads : HeadsValue) (b : BatchValue)
      → IsQuietCall store shards left after now next m → Contains now.running r → r.asked ≡ to_watch c limit names
      → AreRightHeads (having_seen r m) m heads → IsRightBatch m b → heads.horizon ≤ c → c ≤ heads.kept → b.from ≡ c → length b.writes ≡ min (c + limit) heads.kept - c
      → EndsWith now next m r (listed (min (c + limit) heads.kept) (events_from (c + 1) names b.writes))

  -- a shard's learning that finds that it has learned up to the kept place of its heads
  abbrev pub LearnsAnswer : Type 0
  LearnsAnswer = (now : Moment) (next : Nodes) (m : Machine) (r : Running) (s : ℕ) (heads : HeadsValue) (memory : ShardState) → IsQuietCall store shards left after now next m
      → Contains now.running r → r.asked ≡ to_learn s → AreRightHeads (having_seen r m) m heads → ShardKnows next s memory → heads.kept ≤ memory.learned → EndsWith now next m r done

  -- a resolution: what it found is right after its last call
  abbrev pub ResolvesAnswer : Type 0
  ResolvesAnswer = (now : Moment) (next : Nodes) (m : Machine) (r : Running) (s : ℕ) (found : List Resolved) → IsQuietCall store shards left after now next m
      → Contains now.running r → r.asked ≡ to_resolve s → All (IsRightResolved shards after (behind_call now next m)) found → EndsWith now next m r (resolved found)

  -- a collection
  abbrev pub CollectsAnswer : Type 0
  CollectsAnswer = (now : Moment) (next : Nodes) (m : Machine) (r : Running) (s : ℕ) → IsQuietCall store shards left after now next m
      → Contains now.running r → r.asked ≡ to_collect s → EndsWith now next m r done

  -- a raise that the coordinator took: with the flush after it the horizon is there
  abbrev pub RaisesAnswer : Type 0
  RaisesAnswer = (now : Moment) (next : Nodes) (r : Running) (x : ℕ) (h : RaiseHolds) → Stands store shards left now → (flush : FlushesCoordinator left after now.nodes next)
      → Contains now.running r → r.asked ≡ to_raise x → r.holds ≡ raising h → h.is_raised ≡ true
      → EndsWith now next (all_kept now.machine (flush.durable ++ flush.staged)) r done

  -- a write on its way out ends with the refusal that it met, which is not Unsure
  abbrev pub RefusedWritesEnd : Type 0
  RefusedWritesEnd = (now : Moment) (next : Nodes) (m : Machine) (r : Running) (changes : List Change) (conditions : List Condition) (h : WriteHolds) (e : Refusal)
      → IsQuietCall store shards left after now next m → Contains now.running r → r.asked ≡ to_write changes conditions → r.holds ≡ writing h → h.way ≡ outward (Some e)
      → e ≢ Unsure → r.is_cancelled ≡ false
      → let ran = ending now next m r [] in
      Stands store shards after ran × Turns shards (IsHorizonIn store shards left now.nodes) now r (refuses e ∷ []) ran

  -- a flush of the coordinator is quiet, whichever flow asks for it
  abbrev pub CoordinatorFlushesAreQuiet : Type 0
  CoordinatorFlushesAreQuiet = (now : Moment) (next : Nodes) → Stands store shards left now → (flush : FlushesCoordinator left after now.nodes next)
      → IsQuietCall store shards left after now next (all_kept now.machine (flush.durable ++ flush.staged))

  -- so is one that fails, and Down has its cause then
  abbrev pub FailedFlushesAreQuiet : Type 0
  FailedFlushesAreQuiet = (now : Moment) (next : Nodes) → Stands store shards left now → FailsFlush left after now.nodes next
      → (call : IsQuietCall store shards left after now next now.machine)
      × ((r : Running) (ran : Moment) → ran.nodes ≡ next → Calls shards r.asked r.holds coordinator → HasItsCause shards call.node now ran r Down)
