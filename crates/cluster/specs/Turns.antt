-- One turn of a flow.
use Rattle.std.specs.Prelude.{ℕ, List}
use Rattle.device.specs.Device.{State}
use Rattle.answer_flow.specs.ReadViews.{ReadFlowValue}
use Rattle.answer_flow.specs.CheckViews.{CheckFlowValue}
use Rattle.answer_flow.specs.WatchViews.{WatchFlowValue}
use Rattle.answer_flow.specs.Running.{AsksCheck, AsksRead, AsksWatch, GivesCheck, GivesRead, GivesWatch}
use Rattle.answer_flow.specs.declared.check_phase.CheckDone.{CheckDone}
use Rattle.answer_flow.specs.declared.read_phase.ReadDone.{ReadDone}
use Rattle.answer_flow.specs.declared.watch_phase.WatchEnd.{WatchEnd}
use Rattle.care_flow.specs.Cares.{AsksCare, MakesCare, while_out}
use Rattle.care_flow.specs.declared.care.CareCall.{CareCall}
use Rattle.care_flow.specs.declared.care.CareFlow.{CareFlow}
use Rattle.care_flow.specs.declared.end.CareEnd.{CareEnd}
use Rattle.commit_flow.specs.Flows.{WriteFlowValue}
use Rattle.commit_flow.specs.Running.{AsksWrite, GivesWrite}
use Rattle.commit_flow.specs.declared.end.WriteEnd.{WriteEnd}
use Rattle.calls.specs.Fitting.{FitsItsTypes, IsWhole}
use Rattle.calls.specs.Views.{NodeView}
use Rattle.calls.specs.declared.call.NodeCall.{NodeCall}
use Rattle.calls.specs.declared.progress.Progress.{Progress}
use Rattle.calls.specs.declared.reply.Reply.{Reply}
use Rattle.cluster.specs.Nodes.{Called}

module _ {D : Type 0} (state : D → State) (honest : D → Type 0) (moment : D → ℕ) (left_since : D → ℕ → List ℕ → Type 0) where
  -- The flow asks for one call, which fits its types, the node that it names answers it, and the flow is given the reply: by how a kind of flow asks, and what a reply makes of it.
  pub record TurnsBy {F O L : Type 0} (asks : F → NodeCall → O → Type 0) (gives : O → Reply → L → Type 0) (shards : ℕ) (old : List (NodeView D)) (flow : F) (new : List (NodeView D)) (later : L) : Type 0 where
    pub call : NodeCall
    pub out : O
    pub reply : Reply
    pub asked : asks flow call out
    pub fits : FitsItsTypes call
    pub whole : IsWhole call
    pub called : Called state honest moment left_since shards old call reply new
    pub given : gives out reply later

  abbrev pub TurnsWrite : ℕ → List (NodeView D) → WriteFlowValue → List (NodeView D) → Progress WriteFlowValue WriteEnd → Type 0
  TurnsWrite = TurnsBy AsksWrite GivesWrite

  abbrev pub TurnsRead : ℕ → List (NodeView D) → ReadFlowValue → List (NodeView D) → Progress ReadFlowValue ReadDone → Type 0
  TurnsRead = TurnsBy AsksRead GivesRead

  abbrev pub TurnsCheck : ℕ → List (NodeView D) → CheckFlowValue → List (NodeView D) → Progress CheckFlowValue CheckDone → Type 0
  TurnsCheck = TurnsBy AsksCheck GivesCheck

  abbrev pub TurnsWatch : ℕ → List (NodeView D) → WatchFlowValue → List (NodeView D) → Progress WatchFlowValue WatchEnd → Type 0
  TurnsWatch = TurnsBy AsksWatch GivesWatch

  abbrev pub TurnsCare : ℕ → List (NodeView D) → CareFlow → List (NodeView D) → Progress CareFlow CareEnd → Type 0
  TurnsCare = TurnsBy (λ (f : CareFlow) (call : NodeCall) (out : CareCall). AsksCare f call (while_out out)) MakesCare
