-- Which refusal a carrying ends with.
use Rattle.std.specs.Prelude.{◌≡◌, ◌≢◌, ◌⊎◌, ◌≤◌, ◌<◌, ℕ, List, [], ◌∷◌, All, Option, Some, Result, Err, MatchOption, MatchResult, Contains}
use Rattle.calls.specs.Carrying.{Reaches}
use Rattle.calls.specs.Rows.{KnownOf}
use Rattle.calls.specs.Views.{NodeView, coordinator, refused, shard}
use Rattle.calls.specs.declared.carrying.Reach.{Reach}
use Rattle.cluster.specs.Flows.{next_name_of}
use Rattle.cluster.specs.Openings.{name_at}
use Rattle.cluster.specs.Steps.{Takes}
use Rattle.cluster.specs.Worlds.{WorldView, flow_at, node_at}
use Rattle.cluster.specs.declared.event.Answer.{Answer}
use Rattle.cluster.specs.declared.event.Event.{Event}
use Rattle.cluster.specs.declared.event.What.{What}
use Rattle.cluster.specs.declared.event.What.TheVariants.{Began, Ended, Next, Refused}
use Rattle.cluster.specs.declared.step.Step.TheVariants.{Turn, Care as care_for}
use Rattle.device.specs.Device.{State}
use Rattle.gated.specs.Gated.{gated}
use Rattle.names.specs.declared.call_name.CallName.{CallName}
use Rattle.names.specs.declared.call_name.CallName.TheVariants.{Batch, Learned}
use Rattle.names.specs.declared.care.Care.{Care}
use Rattle.names.specs.declared.node_name.NodeName.{NodeName}
use Rattle.names.specs.declared.node_name.NodeName.TheVariants.{Coordinator, Shard}
use Rattle.refusal.specs.declared.refusal.Refusal.{Refusal}
use Rattle.refusal.specs.declared.refusal.Refusal.TheVariants.{BadRequest, Damaged, Down, NoMemory}
use Rattle.reshard.specs.Caring.{Cares, ReachesAt, TurnsOf}

-- this tells no end of a flow
abbrev pub TellsNoEnd : Option What → Type 0
TellsNoEnd (Some (Ended answer)) = ⊥
TellsNoEnd (Some (Refused e)) = ⊥
TellsNoEnd told = Unit {0}

-- this tells in which slot a flow has begun, or why none has
abbrev pub TellsBeginning : Option What → Type 0
TellsBeginning (Some (Began slot)) = Unit {0}
TellsBeginning (Some (Refused e)) = Unit {0}
TellsBeginning told = ⊥

-- a flow that told this goes on, or has come to this
abbrev pub ComesTo : Option What → Option (Result (Unit {0}) Refusal) → Type 0
ComesTo told r = MatchOption r (TellsNoEnd told) (λ came. MatchResult came (λ x. (answer : Answer) × (told ≡ Some (Ended answer))) (λ e. told ≡ Some (Refused e)))

-- the flow in this slot makes this call next
abbrev pub NextIs : {D : Type 0} → WorldView D → ℕ → CallName → Type 0
NextIs w slot name = MatchOption (flow_at w.flows slot) ⊥ (λ flow. next_name_of flow ≡ Some name)

-- one of these events tells the refusal
abbrev pub TellRefused : List Event → Refusal → Type 0
TellRefused events e = (number : ℕ) × Contains events (record { step = number; what = Refused e })

module _ {D : Type 0} (state : D → State) (honest : D → Type 0) (moment : D → ℕ) (left_since : D → ℕ → List ℕ → Type 0) where
  -- The flow in a slot made turns, in the last of which it made this call, and that one comes next.
  pub record HasMade (slot : ℕ) (made next : CallName) (old new : WorldView D) : Type 0 where
    pub mid : WorldView D
    pub before : List (Option What)
    pub turns : TurnsOf state honest moment left_since slot before old mid
    pub makes : NextIs mid slot made
    pub turn : Takes state honest moment left_since mid (Turn slot) (Some (Next next)) new

  -- The flow in a slot made turns, and the last one told an answer, or this refusal. Or it was left: it has made more calls than can be counted, or right after
  -- a batch its shard would be asked once more how far it has learned, as of what the coordinator has forgotten.
  abbrev pub Plays : ℕ → WorldView D → Result (Unit {0}) Refusal → WorldView D → Type 0
  Plays slot old r new = MatchResult r
      (λ x. (answer : Answer) × (before : List (Option What)) × TurnsOf state honest moment left_since slot (Some (Ended answer) ∷ before) old new)
      (λ e. ((before : List (Option What)) × TurnsOf state honest moment left_since slot (Some (Refused e) ∷ before) old new)
      ⊎ (((e ≡ NoMemory) × (all : List (Option What)) × TurnsOf state honest moment left_since slot all old new)
      ⊎ ((e ≡ Damaged) × HasMade slot Batch Learned old new)))

  -- a care was not begun: no memory was there, or the step told this refusal
  abbrev pub BeginsNot : Care → WorldView D → Refusal → WorldView D → Type 0
  BeginsNot care old e new = ((e ≡ NoMemory) × (new ≡ old)) ⊎ Takes state honest moment left_since old (care_for care) (Some (Refused e)) new

  -- Cares were made, and a shard is left behind by the last step: right behind a batch it would be asked once more how far it has learned.
  pub record IsLeftBehind (old new : WorldView D) : Type 0 where
    pub slot : ℕ
    pub mid : WorldView D
    pub cares : Cares state honest moment left_since old mid
    pub makes : NextIs mid slot Batch
    pub turn : Takes state honest moment left_since mid (Turn slot) (Some (Next Learned)) new

  -- Cares were made, and one of them told this refusal; or memory was refused, or a shard is left behind.
  pub record IsRefusedCare (old : WorldView D) (e : Refusal) (new : WorldView D) : Type 0 where
    pub cares : Cares state honest moment left_since old new
    pub cause : TellRefused cares.events e ⊎ ((e ≡ NoMemory) ⊎ ((e ≡ Damaged) × IsLeftBehind old new))

  -- and so, whatever cares were made before
  abbrev pub RefusesCare : WorldView D → Refusal → WorldView D → Type 0
  RefusesCare old e new = (first : WorldView D) → Cares state honest moment left_since first old → IsRefusedCare first e new

module _ {D : Type 0} (state : D → State) (honest : D → Type 0) where
  -- the node of this name, asked how far it reaches, answers this refusal; if there is none, that is BadRequest
  abbrev pub RefusesAt : List (NodeView D) → NodeName → Refusal → Type 0
  RefusesAt nodes name e = MatchOption (node_at nodes name) (e ≡ BadRequest) (λ node. Reaches state honest node (Err e))

  -- each node is up
  abbrev pub AreUp : WorldView D → Type 0
  AreUp w = (i : ℕ) → i ≤ w.shards → (reach : Reach) × ReachesAt state honest w.nodes (name_at i) reach

  -- It is the first node that is not up, the coordinator before the shards, and so it answers.
  pub record IsFirstDown (w : WorldView D) (e : Refusal) : Type 0 where
    pub place : ℕ
    pub within : place ≤ w.shards
    pub refuses : RefusesAt w.nodes (name_at place) e
    pub before : (i : ℕ) → i < place → (reach : Reach) × ReachesAt state honest w.nodes (name_at i) reach

  -- a shard, asked for what it has in memory, answers this refusal
  abbrev pub TellsNot : List (NodeView D) → ℕ → Refusal → Type 0
  TellsNot nodes s e = MatchOption (node_at nodes (Shard s)) (e ≡ BadRequest) (λ node. KnownOf state honest node (Err e))

  -- a shard does not reach as far as the coordinator
  pub record AreApart (nodes : List (NodeView D)) (shards : ℕ) : Type 0 where
    pub reach : Reach
    pub log : ReachesAt state honest nodes Coordinator reach
    pub s : ℕ
    pub within : s < shards
    pub other : Reach
    pub reaches : ReachesAt state honest nodes (Shard s) other
    pub apart : other ≢ reach

  -- What the nodes know could not be found out: one answers this refusal, memory was refused, or they do not reach equally far.
  abbrev pub IsNotKnown : WorldView D → Refusal → Type 0
  IsNotKnown w e = ((name : NodeName) × RefusesAt w.nodes name e) ⊎ (((s : ℕ) × TellsNot w.nodes s e) ⊎ ((e ≡ NoMemory) ⊎ ((e ≡ Damaged) × AreApart w.nodes w.shards)))

  -- an honest device that reads as one without a record
  abbrev pub IsBlank : D → Type 0
  IsBlank d = honest d × (gated (state d).seen ≡ Some [])

  -- one is not
  abbrev pub HaveSomething : List D → Type 0
  HaveSomething given = All IsBlank given → ⊥

-- a node that is no coordinator, asked for what one knows, answers this
abbrev pub HasNoLog : {D : Type 0} → NodeView D → Refusal → Type 0
HasNoLog (coordinator v) e = ⊥
HasNoLog (shard v) e = e ≡ BadRequest
HasNoLog (refused r a b) e = e ≡ r

-- where the coordinator should be there is none
abbrev pub LacksLog : {D : Type 0} → List (NodeView D) → Refusal → Type 0
LacksLog nodes e = MatchOption (node_at nodes Coordinator) (e ≡ BadRequest) (λ node. HasNoLog node e)

-- what is known was not written: a device failed, memory was refused, a device had something, or there is no coordinator
abbrev pub IsNotWritten : {D : Type 0} → (D → State) → (D → Type 0) → List D → List (NodeView D) → Refusal → Type 0
IsNotWritten state honest given nodes e = (e ≡ Down) ⊎ ((e ≡ NoMemory) ⊎ (((e ≡ Damaged) × HaveSomething state honest given) ⊎ LacksLog nodes e))

module _ {D : Type 0} (state : D → State) (honest : D → Type 0) (moment : D → ℕ) (left_since : D → ℕ → List ℕ → Type 0) where
  -- Why nothing was carried over: a node was not up, and then nothing was done; or a care was refused; or what the nodes know could not be found out after
  -- the cares, or not be written.
  abbrev pub CarriesNot : List D → WorldView D → Refusal → WorldView D → Type 0
  CarriesNot given old e new = (IsFirstDown state honest old e × (new ≡ old))
      ⊎ (IsRefusedCare state honest moment left_since old e new ⊎ (Cares state honest moment left_since old new × (IsNotKnown state honest new e ⊎ IsNotWritten state honest given new.nodes e)))
