-- A run: what a list of steps does to a store, and what it prints.
use Rattle.std.specs.Prelude.{◌≡◌, ◌≢◌, ◌⊎◌, ◌≤◌, ◌<◌, ◌+◌, ℕ, true, false, List, [], ◌∷◌, ◌++◌, length, map, Option, Some, None, Contains, All}
use Rattle.tuples.specs.declared.entry.Entry.{Entry}
use Rattle.tuples.specs.declared.entry.WriteId.{WriteId}
use Rattle.tuples.specs.Limits.{max_flows}
use Rattle.refusal.specs.declared.refusal.Refusal.{Refusal}
use Rattle.refusal.specs.declared.refusal.Refusal.TheVariants.{Unsure, Full}
use Rattle.records.specs.declared.record.Record.{Record}
use Rattle.records.specs.Coordinators.{CoordinatorState}
use Rattle.laws.specs.Machines.{Move, append, keep, cut, raise, Moves}
use Rattle.laws.specs.Nodes.{CoordinatorKnows, NodeName, coordinator, shard, up, refused, IsOfRefusedOpening, IsThere, Nodes, NodeTurns, SameBut}
use Rattle.records.specs.Replays.{without}
use Rattle.stores.specs.Flows.{Asked, IsAsked, id_of, named_by, to_write, Resolved, committed, aborted, undecided}
use Rattle.stores.specs.Moments.{Moment, Running, begun, flow_at, replaced, ended, reopened, is_write}
use Rattle.stores.specs.Replies.{Answer, wrote, selected, checked, listed, resolved, done, Agrees}
use Rattle.stores.specs.Causes.{HasItsCause}

-- one step: begin a flow, make the next call of the flow in a slot, cancel it, or throw a node's memory away and open it again
pub data Step : Type 0 where
  start : Asked → Step
  turn : ℕ → Step
  cancel : ℕ → Step
  restart : NodeName → Step

-- what a step tells: the slot of the flow that began, that a flow goes on, its answer, that a node is up, or a refusal
pub data Told : Type 0 where
  began : ℕ → Told
  goes_on : Told
  answered : Answer → Told
  came_up : Told
  refuses : Refusal → Told

-- what was told, with the number of the step
pub record Event : Type 0 where
  pub step : ℕ
  pub told : Told

-- the ids that an answer says are aborted
abbrev pub aborted_ids : List Resolved → List WriteId
aborted_ids [] = []
aborted_ids (committed id p ∷ found) = aborted_ids found
aborted_ids (aborted id ∷ found) = id ∷ aborted_ids found
aborted_ids (undecided id ∷ found) = aborted_ids found

-- the ids that an answer says are aborted, of a resolution alone
abbrev pub told_by : Answer → List WriteId
told_by (resolved found) = aborted_ids found
told_by (wrote i) = []
told_by (selected s rows) = []
told_by (checked s b) = []
told_by (listed e events) = []
told_by done = []

-- an opening of the coordinator may keep more of the log, cut it, or raise the horizon to one of these places
abbrev pub IsOfOpening : (ℕ → Type 0) → Move → Type 0
IsOfOpening may_rise (append w) = ⊥
IsOfOpening may_rise (keep i) = Unit {0}
IsOfOpening may_rise (cut i) = Unit {0}
IsOfOpening may_rise (raise x) = may_rise x

-- a turn may keep more of the log, or raise the horizon to one of these places
abbrev pub IsQuiet : (ℕ → Type 0) → Move → Type 0
IsQuiet may_rise (append w) = ⊥
IsQuiet may_rise (keep i) = Unit {0}
IsQuiet may_rise (cut i) = ⊥
IsQuiet may_rise (raise x) = may_rise x

-- the open writes and the last number that was given are as before
pub record KeepsOpen (old new : Nodes) : Type 0 where
  pub open_writes : new.open_writes ≡ old.open_writes
  pub given : new.given ≡ old.given

-- a flow's own write is begun by a coordinator that is up, in its epoch and under the next number
pub record OpensOwn (old new : Nodes) (r later : Running) : Type 0 where
  pub write : Entry
  pub kept : CoordinatorState
  pub memory : CoordinatorState
  pub knows : CoordinatorKnows old kept memory
  pub epoch : write.id.epoch ≡ memory.epoch
  pub asked : r.asked ≡ to_write write.changes write.conditions
  pub unbegun : id_of r.holds ≡ None
  pub held : id_of later.holds ≡ Some write.id
  pub number : write.id.number ≡ old.given + 1
  pub open_writes : new.open_writes ≡ write ∷ old.open_writes
  pub given : new.given ≡ old.given + 1

-- a flow's own write is open no longer: it was decided, or aborted
pub record ClosesOwn (old new : Nodes) (r : Running) : Type 0 where
  pub id : WriteId
  pub held : id_of r.holds ≡ Some id
  pub open_writes : new.open_writes ≡ without id old.open_writes
  pub given : new.given ≡ old.given

-- what a turn may do to the open writes: nothing to those of other flows; and if it begins and closes none, its flow has the id that it had, or none
abbrev pub OpenTurns : Nodes → Nodes → Running → Running → Type 0
OpenTurns old new r later = (KeepsOpen old new × (id_of later.holds ≡ id_of r.holds)) ⊎ (OpensOwn old new r later ⊎ ClosesOwn old new r)

-- the id of a flow's write, once it has one, stays
abbrev pub KeepsId : Running → Running → Type 0
KeepsId r later = (id : WriteId) → id_of r.holds ≡ Some id → id_of later.holds ≡ Some id

-- The store has this many shards. Before the run a record of the coordinator raised the horizon to these places.
module _ (shards : ℕ) (found_before : ℕ → Type 0) where
  -- the horizon may rise to a place that a flow was asked for, or that a record of the coordinator named before
  abbrev pub MayRise : Moment → ℕ → Type 0
  MayRise before x = Contains before.named x ⊎ found_before x

  -- A turn in which a write flow makes its decision, its first and only one: it lists its own write under the id that it holds, which nobody
  -- was told is aborted.
  pub record Decides (before : Moment) (r : Running) (moves : List Move) (after : Moment) (later : Running) : Type 0 where
    pub write : Entry
    pub own : r.asked ≡ to_write write.changes write.conditions
    pub held : id_of r.holds ≡ Some write.id
    pub first : r.decided ≡ None
    pub not_cancelled : r.is_cancelled ≡ false
    pub not_told : Contains before.told write.id → ⊥
    pub moves_are : moves ≡ append write ∷ []
    pub decided : later.decided ≡ Some (record { place = length after.machine.log; epoch = write.id.epoch })

  -- a turn in which it makes none
  pub record DecidesNothing (before : Moment) (r : Running) (moves : List Move) (later : Running) : Type 0 where
    pub moves_are : All (IsQuiet (MayRise before)) moves
    pub decided : later.decided ≡ r.decided

  -- a flow after its turn, which called this node: it has seen the machine, and met no refusal without a cause there
  pub record IsTurned (node : NodeName) (before : Moment) (r : Running) (moves : List Move) (after : Moment) (later : Running) : Type 0 where
    pub slot : later.slot ≡ r.slot
    pub asked : later.asked ≡ r.asked
    pub same_id : KeepsId r later
    pub seen : later.seen ≡ r.seen ++ after.machine ∷ []
    pub decides : Decides before r moves after later ⊎ DecidesNothing before r moves later
    pub met : (later.met ≡ r.met) ⊎ ((e : Refusal) × (later.met ≡ Some e) × HasItsCause shards node before after r e)
    pub cancelled : later.is_cancelled ≡ r.is_cancelled
    pub reopened_is : later.is_reopened ≡ r.is_reopened

  -- a flow ends with a refusal that it met: a write that is Unsure was decided, one that is refused otherwise was not
  pub record IsRefused (later : Running) (e : Refusal) : Type 0 where
    pub met : later.met ≡ Some e
    pub decided : later.decided ≡ None → e ≢ Unsure
    pub undecided_write : e ≢ Unsure → later.decided ≡ None

  -- the turn tells this: the flow goes on, or it ends with an answer that agrees or with a refusal
  abbrev pub EndsAs : Moment → Running → Moment → Told → Type 0
  EndsAs before later after goes_on = (after.running ≡ replaced later before.running) × (after.told ≡ before.told)
  EndsAs before later after (answered answer) = Agrees later after later.asked answer
      × (after.running ≡ ended later.slot before.running) × (after.told ≡ told_by answer ++ before.told)
  EndsAs before later after (refuses e) = IsRefused later e × (after.running ≡ ended later.slot before.running) × (after.told ≡ before.told)
  EndsAs before later after (began slot) = ⊥
  EndsAs before later after came_up = ⊥

  -- A turn of a flow that was cancelled tells nothing: it goes on or ends.
  abbrev pub EndsQuietly : Moment → Running → Moment → Type 0
  EndsQuietly before later after = (after.told ≡ before.told)
      × ((after.running ≡ replaced later before.running) ⊎ (after.running ≡ ended later.slot before.running))

  -- A turn of a flow that runs: it makes at most one call, of one node, which it does not open.
  pub record Turns (before : Moment) (r : Running) (told : List Told) (after : Moment) : Type 0 where
    pub moves : List Move
    pub machine : Moves before.machine moves after.machine
    pub node : NodeName
    pub others : SameBut node before.nodes after.nodes
    pub called : NodeTurns node (before.nodes.at node) (after.nodes.at node)
    pub later : Running
    pub open_writes : OpenTurns before.nodes after.nodes r later
    pub turned : IsTurned node before r moves after later
    pub named : after.named ≡ before.named
    pub tells : ((r.is_cancelled ≡ false) × ((t : Told) × (told ≡ t ∷ []) × EndsAs before later after t))
        ⊎ ((r.is_cancelled ≡ true) × (told ≡ []) × EndsQuietly before later after)

  -- nothing happens, and nothing is told
  abbrev pub IsIdle : Moment → List Told → Moment → Type 0
  IsIdle before told after = (told ≡ []) × (after ≡ before)

  -- a flow begins in a free slot, unless there are 1,024
  abbrev pub Begins : Moment → Asked → List Told → Moment → Type 0
  Begins before asked told after = ((slot : ℕ) × (flow_at slot before.running ≡ None) × (length before.running < max_flows) × (told ≡ began slot ∷ [])
      × (after ≡ record before { running = begun slot asked ∷ before.running; named = named_by asked ++ before.named }))
      ⊎ ((max_flows ≤ length before.running) × (told ≡ refuses Full ∷ []) × (after ≡ before))

  -- a flow is cancelled: a write goes out if it is not decided, and each other flow ends at once
  pub record IsCancelled (before : Moment) (r : Running) (told : List Told) (after : Moment) : Type 0 where
    pub tells : told ≡ []
    pub machine : after.machine ≡ before.machine
    pub nodes : after.nodes ≡ before.nodes
    pub told_before : after.told ≡ before.told
    pub named : after.named ≡ before.named
    pub running : ((is_write r.asked ≡ true) × ((later : Running) × (later ≡ record r { holds = later.holds; is_cancelled = true }) × (id_of later.holds ≡ id_of r.holds) × (after.running ≡ replaced later before.running)))
        ⊎ ((r.decided ≡ None) × (after.running ≡ ended r.slot before.running))
    pub others_end : is_write r.asked ≡ false → after.running ≡ ended r.slot before.running

  -- an opening of this node ends so: it is up, with all that was found kept if it is the coordinator; or it is refused, and stays so
  abbrev pub OpensAs : NodeName → Moment → Told → Type 0
  OpensAs n after came_up = ((durable : List Record) × (after.nodes.at n ≡ up durable [])) × (n ≡ coordinator → after.machine.kept ≡ length after.machine.log)
  OpensAs n after (refuses e) = (after.nodes.at n ≡ refused e) × IsOfRefusedOpening e
  OpensAs n after (began slot) = ⊥
  OpensAs n after goes_on = ⊥
  OpensAs n after (answered answer) = ⊥

  -- what an opening may do to the machine: a shard's does nothing
  abbrev pub OpeningMoves : NodeName → Moment → List Move → List Running → Type 0
  OpeningMoves coordinator before moves running = All (IsOfOpening (MayRise before)) moves × (running ≡ reopened before.running)
  OpeningMoves (shard s) before moves running = (moves ≡ []) × (running ≡ before.running)

  -- A node is opened again.
  pub record Restarts (before : Moment) (n : NodeName) (told : List Told) (after : Moment) : Type 0 where
    pub moves : List Move
    pub machine : Moves before.machine moves after.machine
    pub allowed : OpeningMoves n before moves after.running
    pub others : SameBut n before.nodes after.nodes
    pub told_before : after.told ≡ before.told
    pub named : after.named ≡ before.named
    pub tells : (t : Told) × (told ≡ t ∷ []) × OpensAs n after t

  -- what the flow in the slot does, if there is one
  abbrev pub IfRunning : (Moment → Running → List Told → Moment → Type 0) → Option Running → Moment → List Told → Moment → Type 0
  IfRunning P None before told after = IsIdle before told after
  IfRunning P (Some r) before told after = P before r told after

  -- One step tells this and leads from one moment to the next. A step that names no running flow, or no node that is there, is idle.
  abbrev pub Takes : Moment → Step → List Told → Moment → Type 0
  Takes before (start asked) told after = (IsAsked shards asked × Begins before asked told after) ⊎ ((IsAsked shards asked → ⊥) × IsIdle before told after)
  Takes before (turn slot) told after = IfRunning Turns (flow_at slot before.running) before told after
  Takes before (cancel slot) told after = IfRunning IsCancelled (flow_at slot before.running) before told after
  Takes before (restart n) told after = (IsThere shards n × Restarts before n told after) ⊎ ((IsThere shards n → ⊥) × IsIdle before told after)

  -- these steps, numbered from this number on, lead from one moment to another and tell these events
  abbrev pub IsRun : ℕ → Moment → List Step → List Event → Moment → Type 0
  IsRun number before [] events after = (events ≡ []) × (after ≡ before)
  IsRun number before (s ∷ steps) events after = (mid : Moment) × (told : List Told) × (rest : List Event)
      × Takes before s told mid × IsRun (number + 1) mid steps rest after
      × (events ≡ map (λ t. record { step = number; told = t }) told ++ rest)
