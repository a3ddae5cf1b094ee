-- What is done of the old store: cares of its nodes, and nothing else.
use Rattle.std.specs.Prelude.{◌≡◌, ◌<◌, ℕ, true, List, [], ◌∷◌, Ok, Option, Some, MatchOption, is_some}
use Rattle.std.specs.List.{AllByRecursion}
use Rattle.calls.specs.Carrying.{Reaches}
use Rattle.calls.specs.Views.{NodeView}
use Rattle.calls.specs.declared.carrying.Reach.{Reach}
use Rattle.care_flow.specs.Cares.{next_name_of}
use Rattle.cluster.specs.Runs.{TookAll}
use Rattle.cluster.specs.Steps.{Takes}
use Rattle.cluster.specs.Worlds.{WorldView, flow_at, node_at}
use Rattle.cluster.specs.declared.event.Answer.{Answer}
use Rattle.cluster.specs.declared.event.Event.{Event}
use Rattle.cluster.specs.declared.event.What.{What}
use Rattle.cluster.specs.declared.event.What.TheVariants.{Began, Ended}
use Rattle.cluster.specs.declared.flow.Flow.{Flow}
use Rattle.cluster.specs.declared.flow.Flow.TheVariants.{Care as a_care}
use Rattle.cluster.specs.declared.step.Step.{Step}
use Rattle.cluster.specs.declared.step.Step.TheVariants.{Start, Turn, Cancel, Care as care_for, Restart}
use Rattle.device.specs.Device.{State}
use Rattle.names.specs.declared.care.Care.{Care}
use Rattle.names.specs.declared.care.Care.TheVariants.{Flush, Checkpoint, Learn, Resolve, Raise, Collect}
use Rattle.names.specs.declared.node_name.NodeName.{NodeName}
use Rattle.names.specs.declared.node_name.NodeName.TheVariants.{Coordinator, Shard}

-- a care by which no horizon is raised, and which is no checkpoint
abbrev pub IsOfClosing : Care → Type 0
IsOfClosing (Flush node) = Unit {0}
IsOfClosing (Checkpoint node) = ⊥
IsOfClosing (Learn shard) = Unit {0}
IsOfClosing (Resolve shard) = Unit {0}
IsOfClosing (Raise place) = ⊥
IsOfClosing (Collect shard) = Unit {0}

-- the step begins such a care, or goes on with one
abbrev pub IsCaring : Step → Type 0
IsCaring (Start request) = ⊥
IsCaring (Turn slot) = Unit {0}
IsCaring (Cancel slot) = ⊥
IsCaring (care_for care) = IsOfClosing care
IsCaring (Restart name) = ⊥

-- a care that makes a call next
abbrev pub IsGoing : Flow → Type 0
IsGoing (a_care v) = is_some (next_name_of v) ≡ true
IsGoing flow = ⊥

-- such a care is in this slot
abbrev pub HoldsCare : {D : Type 0} → WorldView D → ℕ → Type 0
HoldsCare w slot = MatchOption (flow_at w.flows slot) ⊥ IsGoing

module _ {D : Type 0} (state : D → State) (honest : D → Type 0) (moment : D → ℕ) (left_since : D → ℕ → List ℕ → Type 0) where
  -- such steps were taken, one after another
  pub record Cares (old new : WorldView D) : Type 0 where
    pub steps : List Step
    pub events : List Event
    pub caring : AllByRecursion IsCaring steps
    pub took : TookAll state honest moment left_since old 0 steps events new

  -- such steps go on from where others have led
  abbrev pub CaresOn : WorldView D → WorldView D → Type 0
  CaresOn old new = (first : WorldView D) → Cares first old → Cares first new

  -- The flow in a slot made turns, one after another. What they told stands with the last one first.
  abbrev pub TurnsOf : ℕ → List (Option What) → WorldView D → WorldView D → Type 0
  TurnsOf slot [] old new = new ≡ old
  TurnsOf slot (told ∷ before) old new = (mid : WorldView D) × TurnsOf slot before old mid × Takes state honest moment left_since mid (Turn slot) told new

  -- A care was begun in some slot, and the flow there made its turns, the last of which told an answer.
  pub record Serves (care : Care) (old new : WorldView D) : Type 0 where
    pub slot : ℕ
    pub begun : WorldView D
    pub begins : Takes state honest moment left_since old (care_for care) (Some (Began slot)) begun
    pub answer : Answer
    pub before : List (Option What)
    pub turns : TurnsOf slot (Some (Ended answer) ∷ before) begun new

  -- the coordinator was flushed, which told its end, and then more such steps were taken
  pub record IsCaredFor (old new : WorldView D) : Type 0 where
    pub flushed : WorldView D
    pub first : Serves (Flush Coordinator) old flushed
    pub rest : CaresOn flushed new

module _ {D : Type 0} (state : D → State) (honest : D → Type 0) (nodes : List (NodeView D)) where
  -- the node of this name is there, and reaches so far
  abbrev pub ReachesAt : NodeName → Reach → Type 0
  ReachesAt name reach = MatchOption (node_at nodes name) ⊥ (λ node. Reaches state honest node (Ok reach))

  -- the shards have learned all that the coordinator keeps, and all have its horizon
  pub record HaveReached (shards : ℕ) (reach : Reach) : Type 0 where
    pub log : ReachesAt Coordinator reach
    pub each : (s : ℕ) → s < shards → ReachesAt (Shard s) reach
