-- What one step does to a store, and what it reports.
use Rattle.std.specs.Prelude.{◌≡◌, ◌≤◌, ◌<◌, ℕ, Bool, true, false, List, [], ◌∷◌, Option, Some, None, MatchOption, slice_set}
use Rattle.tuples.specs.Limits.{max_flows}
use Rattle.refusal.specs.declared.refusal.Refusal.{Refusal}
use Rattle.refusal.specs.declared.refusal.Refusal.TheVariants.{Full}
use Rattle.device.specs.Device.{State}
use Rattle.answer_flow.specs.ReadViews.{ReadFlowValue, ending_of as read_ending}
use Rattle.answer_flow.specs.CheckViews.{CheckFlowValue, ending_of as check_ending}
use Rattle.answer_flow.specs.WatchViews.{WatchFlowValue, ending_of as watch_ending}
use Rattle.answer_flow.specs.declared.check_phase.CheckDone.{CheckDone}
use Rattle.answer_flow.specs.declared.read_phase.ReadDone.{ReadDone}
use Rattle.answer_flow.specs.declared.watch_phase.WatchEnd.{WatchEnd}
use Rattle.care_flow.specs.declared.care.CareFlow.{CareFlow}
use Rattle.care_flow.specs.declared.end.CareEnd.{CareEnd}
use Rattle.commit_flow.specs.Flows.{WriteFlowValue}
use Rattle.commit_flow.specs.declared.end.WriteEnd.{WriteEnd}
use Rattle.calls.specs.Opening.{refusal_of}
use Rattle.calls.specs.Views.{NodeView, devices_of}
use Rattle.calls.specs.declared.progress.Progress.{Progress}
use Rattle.calls.specs.declared.progress.Progress.TheVariants as made
use Rattle.names.specs.declared.node_name.NodeName.{NodeName}
use Rattle.names.specs.declared.call_name.CallName.{CallName}
use Rattle.cluster.specs.declared.event.Event.{Event}
use Rattle.cluster.specs.declared.event.What.{What}
use Rattle.cluster.specs.declared.event.What.TheVariants.{Began, Next, Up, Refused}
use Rattle.cluster.specs.declared.flow.Flow.{Flow}
use Rattle.cluster.specs.declared.flow.Flow.TheVariants.{Write, Read, Check, Watch, Care}
use Rattle.cluster.specs.declared.step.Step.{Step}
use Rattle.cluster.specs.declared.step.Step.TheVariants.{Start, Turn, Cancel, Care as care_for, Restart}
use Rattle.cluster.specs.Begun.{IsInLimits, MayCare, begun_for, caring_for}
use Rattle.cluster.specs.Ends.{TellsCare, TellsCheck, TellsRead, TellsWatch, TellsWrite}
use Rattle.cluster.specs.Flows.{IsNamed, is_cancelled}
use Rattle.cluster.specs.Cancels.{Cancels}
use Rattle.cluster.specs.Nodes.{Reopened}
use Rattle.cluster.specs.Turns.{TurnsCare, TurnsCheck, TurnsRead, TurnsWatch, TurnsWrite}
use Rattle.cluster.specs.Worlds.{Puts, WorldView, flow_at, flow_count, index_of, node_at}

-- nothing is reported of a flow that was cancelled
abbrev pub unless : Bool → Option What → Option What
unless true told = None
unless false told = told

-- what is reported of a node that was opened: it is up, or refused
abbrev pub told_of_opening : Option Refusal → What
told_of_opening None = Up
told_of_opening (Some e) = Refused e

-- a step that begins a flow, which takes memory
abbrev pub BeginsFlow : Step → Type 0
BeginsFlow (Start request) = Unit {0}
BeginsFlow (care_for care) = Unit {0}
BeginsFlow step = ⊥

-- a flow is put into a free slot, which is reported
pub record AddsFlow (old : List (Option Flow)) (flow : Flow) (told : Option What) (new : List (Option Flow)) : Type 0 where
  pub slot : ℕ
  pub free : flow_at old slot ≡ None
  pub puts : Puts old slot (Some flow) new
  pub tells : told ≡ Some (Began slot)

-- A flow begins in a free slot; if as many run as may, it is refused. A flow that may not be asked for begins nowhere.
pub record Begins (old : List (Option Flow)) (may : Type 0) (flow : Flow) (told : Option What) (new : List (Option Flow)) : Type 0 where
  pub nowhere : (may → ⊥) → (told ≡ None) × (new ≡ old)
  pub full : may → max_flows ≤ flow_count old → (told ≡ Some (Refused Full)) × (new ≡ old)
  pub begins : may → flow_count old < max_flows → AddsFlow old flow told new

-- A flow goes on in its slot, and its next call is reported.
pub record GoesOn (old : List (Option Flow)) (slot : ℕ) (later : Flow) (told : Option What) (new : List (Option Flow)) : Type 0 where
  pub name : CallName
  pub named : IsNamed later name
  pub puts : Puts old slot (Some later) new
  pub tells : told ≡ unless (is_cancelled later) (Some (Next name))

-- what a turn has made of a flow of a kind: it waits for its next turn, or this is reported of its end
abbrev pub IsMade : {V E : Type 0} → (V → Flow) → (E → Option What → Type 0) → Progress V E → Progress Flow (Option What) → Type 0
IsMade kind tells (made.Next later) (made.Next flow) = flow ≡ kind later
IsMade kind tells (made.Ended end) (made.Ended told) = tells end told
IsMade kind tells turned after = ⊥

-- nothing is reported of the end of a write that was cancelled
abbrev pub TellsWriting : Bool → WriteEnd → Option What → Type 0
TellsWriting is_cancelled end told = (what : Option What) × TellsWrite end what × (told ≡ unless is_cancelled what)

-- a write stays cancelled, or not
abbrev pub write_of : Bool → WriteFlowValue → Flow
write_of is_cancelled flow = Write (record { flow = flow; is_cancelled = is_cancelled })

-- what is left in a slot then: the flow, or none, and how it ended is reported
abbrev pub LeavesSlot : List (Option Flow) → ℕ → Progress Flow (Option What) → Option What → List (Option Flow) → Type 0
LeavesSlot old slot (made.Next later) told new = GoesOn old slot later told new
LeavesSlot old slot (made.Ended end) told new = Puts old slot None new × (told ≡ end)

-- the flow in this slot is cancelled, and is left in it or not
pub record SlotCancels (old : List (Option Flow)) (slot : ℕ) (flow : Flow) (new : List (Option Flow)) : Type 0 where
  pub later : Option Flow
  pub cancels : Cancels flow later
  pub puts : Puts old slot later new

module _ {D : Type 0} (state : D → State) (honest : D → Type 0) (moment : D → ℕ) (left_since : D → ℕ → List ℕ → Type 0) where
  -- what a turn makes of a flow, by its kind
  abbrev pub Makes : ℕ → List (NodeView D) → Flow → List (NodeView D) → Progress Flow (Option What) → Type 0
  Makes shards old (Write w) new after = (turned : Progress WriteFlowValue WriteEnd) × TurnsWrite state honest moment left_since shards old w.flow new turned × IsMade (write_of w.is_cancelled) (TellsWriting w.is_cancelled) turned after
  Makes shards old (Read v) new after = (turned : Progress ReadFlowValue ReadDone) × TurnsRead state honest moment left_since shards old v new turned × IsMade Read (λ done. TellsRead (read_ending done.end)) turned after
  Makes shards old (Check v) new after = (turned : Progress CheckFlowValue CheckDone) × TurnsCheck state honest moment left_since shards old v new turned × IsMade Check (λ done. TellsCheck (check_ending done.end)) turned after
  Makes shards old (Watch v) new after = (turned : Progress WatchFlowValue WatchEnd) × TurnsWatch state honest moment left_since shards old v new turned × IsMade Watch (λ end. TellsWatch (watch_ending end)) turned after
  Makes shards old (Care v) new after = (turned : Progress CareFlow CareEnd) × TurnsCare state honest moment left_since shards old v new turned × IsMade Care TellsCare turned after

  -- the flow in this slot makes its turn, and is left in it or not
  pub record SlotTurns (shards : ℕ) (old : List (NodeView D)) (old_flows : List (Option Flow)) (slot : ℕ) (flow : Flow) (told : Option What) (new : List (NodeView D)) (new_flows : List (Option Flow)) : Type 0 where
    pub after : Progress Flow (Option What)
    pub turns : Makes shards old flow new after
    pub leaves : LeavesSlot old_flows slot after told new_flows

  -- nothing is reported, and nothing changes
  abbrev pub IsIdle : WorldView D → Option What → WorldView D → Type 0
  IsIdle old told new = (told ≡ None) × (new ≡ old)

  -- a flow for this begins, and no node changes
  abbrev pub BeginsIn : WorldView D → Type 0 → Flow → Option What → WorldView D → Type 0
  BeginsIn old may flow told new = Begins old.flows may flow told new.flows × (new ≡ record old { flows = new.flows })

  -- the flow in this slot makes its turn
  abbrev pub TurnsIn : WorldView D → ℕ → Flow → Option What → WorldView D → Type 0
  TurnsIn old slot flow told new = SlotTurns old.shards old.nodes old.flows slot flow told new.nodes new.flows × (new ≡ record old { nodes = new.nodes; flows = new.flows })

  -- the flow in this slot is cancelled, which is not reported
  abbrev pub CancelsIn : WorldView D → ℕ → Flow → Option What → WorldView D → Type 0
  CancelsIn old slot flow told new = SlotCancels old.flows slot flow new.flows × (told ≡ None) × (new ≡ record old { flows = new.flows })

  -- the node of this name is opened again, which is reported, and no other has changed
  pub record SlotRestarts (store shards : ℕ) (old : List (NodeView D)) (name : NodeName) (was : NodeView D) (told : Option What) (new : List (NodeView D)) : Type 0 where
    pub is : NodeView D
    pub reopened : Reopened state honest moment left_since store shards name (devices_of was).0 (devices_of was).1 is
    pub new_is : new ≡ slice_set old (index_of name) is
    pub tells : told ≡ Some (told_of_opening (refusal_of is))

  abbrev pub RestartsIn : WorldView D → NodeName → NodeView D → Option What → WorldView D → Type 0
  RestartsIn old name was told new = SlotRestarts old.store old.shards old.nodes name was told new.nodes × (new ≡ record old { nodes = new.nodes })

  -- One step leads from one store to another, and reports this. A step that names no running flow, or no node that is there, is idle.
  abbrev pub Takes : WorldView D → Step → Option What → WorldView D → Type 0
  Takes old (Start request) told new = BeginsIn old (IsInLimits request) (begun_for old.shards request) told new
  Takes old (Turn slot) told new = MatchOption (flow_at old.flows slot) (IsIdle old told new) (λ flow. TurnsIn old slot flow told new)
  Takes old (Cancel slot) told new = MatchOption (flow_at old.flows slot) (IsIdle old told new) (λ flow. CancelsIn old slot flow told new)
  Takes old (care_for care) told new = BeginsIn old (MayCare old.shards care) (caring_for old.shards care) told new
  Takes old (Restart name) told new = MatchOption (node_at old.nodes name) (IsIdle old told new) (λ was. RestartsIn old name was told new)

-- the events of one step, under its number
abbrev pub events_of : ℕ → Option What → List Event
events_of number None = []
events_of number (Some what) = record { step = number; what = what } ∷ []
