-- A call is answered by the node that stands where its name says.
use Rattle.std.proofs.Common.{◌≡◌, ◌<◌, ◌≤◌, ℕ, List, Option, Some, None, MatchOption, length, get_or, set, slice_get, refl, subst, sym}
use Rattle.std.proofs.lemmas.Option.{slice_get_past, slice_get_read}
use Rattle.device.specs.Device.{State}
use Rattle.refusal.specs.declared.refusal.Refusal.TheVariants.{Damaged}
use Rattle.calls.specs.Asking.{Refuses}
use Rattle.calls.specs.Names.{node_of}
use Rattle.calls.specs.Views.{NodeView}
use Rattle.calls.specs.declared.call.NodeCall.{NodeCall}
use Rattle.names.specs.declared.node_name.NodeName.{NodeName}
use Rattle.calls.specs.declared.reply.Reply.{Reply}
use Rattle.cluster.specs.Nodes.{AnsweredBy, Answers, Called}
use Rattle.cluster.specs.Worlds.{index_of, node_at}

pub there : {D : Type 0} (nodes : List (NodeView D)) (name : NodeName) (index : ℕ) (is : NodeView D) → index ≡ index_of name → index < length nodes → is ≡ get_or nodes index is → node_at nodes name ≡ Some is
there nodes name index is at within read = subst (λ (i : ℕ). slice_get nodes i ≡ Some is) at (slice_get_read nodes (length nodes) index is refl within read)

pub away : {D : Type 0} (nodes : List (NodeView D)) (name : NodeName) (index : ℕ) → index ≡ index_of name → length nodes ≤ index → node_at nodes name ≡ None
away nodes name index at past = subst (λ (i : ℕ). slice_get nodes i ≡ None) at (slice_get_past nodes index past)

module _ {D : Type 0} (state : D → State) (honest : D → Type 0) (moment : D → ℕ) (left_since : D → ℕ → List ℕ → Type 0) where
  pub called_there : (shards : ℕ) (nodes : List (NodeView D)) (call : NodeCall) (index : ℕ) (was is : NodeView D) (reply : Reply)
      → index ≡ index_of (node_of call) → index < length nodes → was ≡ get_or nodes index was
      → Answers state honest moment left_since shards was call reply is → Called state honest moment left_since shards nodes call reply (set nodes index is)
  called_there shards nodes call index was is reply at within read answers =
      subst (λ (o : Option (NodeView D)). MatchOption o ((set nodes index is ≡ nodes) × Refuses Damaged call reply) (λ w. AnsweredBy state honest moment left_since shards nodes w call reply (set nodes index is)))
      (sym (there nodes (node_of call) index was at within read))
      (record { is = is; answers = answers; new_is = subst (λ (i : ℕ). set nodes index is ≡ set nodes i is) at refl })
