-- No turn adds or removes a node.
use Rattle.std.proofs.Common.{◌≡◌, ◌∙◌, ℕ, List, Option, Some, None, MatchOption, length, ap}
use Rattle.std.proofs.lemmas.List.{length-set}
use Rattle.device.specs.Device.{State}
use Rattle.device.specs.declared.tear.Tear.{Tear}
use Rattle.journal.specs.declared.refused.Bank.{Bank}
use Rattle.refusal.specs.declared.refusal.Refusal.TheVariants.{Damaged}
use Rattle.calls.specs.Asking.{Refuses}
use Rattle.calls.specs.Names.{node_of}
use Rattle.calls.specs.Views.{NodeView}
use Rattle.calls.specs.declared.call.NodeCall.{NodeCall}
use Rattle.calls.specs.declared.progress.Progress.{Progress}
use Rattle.names.specs.declared.node_name.NodeName.{NodeName}
use Rattle.calls.specs.declared.reply.Reply.{Reply}
use Rattle.cluster.specs.declared.flow.Flow.{Flow}
use Rattle.cluster.specs.declared.flow.Flow.TheVariants.{Write, Read, Check, Watch, Care}
use Rattle.cluster.specs.Nodes.{AnsweredBy, Called, IsSetIn}
use Rattle.cluster.specs.declared.event.What.{What}
use Rattle.cluster.specs.Steps.{Makes, SlotTurns}
use Rattle.cluster.specs.Worlds.{flow_at, index_of, node_at}

module _ {D : Type 0} (state : D → State) (honest : D → Type 0) (moment : D → ℕ) (left_since : D → ℕ → List ℕ → Type 0) where
  called : (shards : ℕ) (old new : List (NodeView D)) (call : NodeCall) (reply : Reply) → Called state honest moment left_since shards old call reply new → length new ≡ length old
  called shards old new call reply = by_node (node_at old (node_of call))
    where
      by_node : (here : Option (NodeView D)) → MatchOption here ((new ≡ old) × Refuses Damaged call reply) (λ was. AnsweredBy state honest moment left_since shards old was call reply new) → length new ≡ length old
      by_node None h = ap length h.0
      by_node (Some was) h = ap length h.new_is ∙ length-set old (index_of (node_of call)) h.is

  as_many : (shards : ℕ) (old : List (NodeView D)) (flow : Flow) (new : List (NodeView D)) (after : Progress Flow (Option What)) → Makes state honest moment left_since shards old flow new after → length new ≡ length old
  as_many shards old (Write flow) new after t = called shards old new t.1.call t.1.reply t.1.called
  as_many shards old (Read flow) new after t = called shards old new t.1.call t.1.reply t.1.called
  as_many shards old (Check flow) new after t = called shards old new t.1.call t.1.reply t.1.called
  as_many shards old (Watch flow) new after t = called shards old new t.1.call t.1.reply t.1.called
  as_many shards old (Care flow) new after t = called shards old new t.1.call t.1.reply t.1.called

  pub slot_turned : (shards : ℕ) (old : List (NodeView D)) (flows : List (Option Flow)) (slot : ℕ) (told : Option What) (new : List (NodeView D)) (later : List (Option Flow))
      → MatchOption (flow_at flows slot) ((told ≡ None) × (new ≡ old) × (later ≡ flows)) (λ flow. SlotTurns state honest moment left_since shards old flows slot flow told new later) → length new ≡ length old
  slot_turned shards old flows slot told new later = by_flow (flow_at flows slot)
    where
      by_flow : (here : Option Flow) → MatchOption here ((told ≡ None) × (new ≡ old) × (later ≡ flows)) (λ flow. SlotTurns state honest moment left_since shards old flows slot flow told new later) → length new ≡ length old
      by_flow None h = ap length h.1
      by_flow (Some flow) h = as_many shards old flow new h.after h.turns

-- nor does a script that is set
module _ {D : Type 0} (set : D → ℕ → Tear → Type 0) (state : D → State) (honest : D → Type 0) (moment : D → ℕ) (left_since : D → ℕ → List ℕ → Type 0) where
  pub script_set : (bank : Bank) (n : ℕ) (tear : Tear) (old : List (NodeView D)) (name : NodeName) (new : List (NodeView D))
      → MatchOption (node_at old name) (new ≡ old) (λ was. IsSetIn set state honest moment left_since bank n tear old name was new) → length new ≡ length old
  script_set bank n tear old name new = by_node (node_at old name)
    where
      by_node : (here : Option (NodeView D)) → MatchOption here (new ≡ old) (λ was. IsSetIn set state honest moment left_since bank n tear old name was new) → length new ≡ length old
      by_node None h = ap length h
      by_node (Some was) h = ap length h.new_is ∙ length-set old (index_of name) h.is
