-- What a step does to the nodes.
use Rattle.std.specs.Prelude.{◌≡◌, ◌⊎◌, ◌↔◌, ◌≤◌, ℕ, List, MatchOption, slice_set}
use Rattle.records.specs.Identity.{Identity, coordinator_number}
use Rattle.device.specs.Device.{Elapses, Failed, Keeps, Revived, State, left}
use Rattle.refusal.specs.declared.refusal.Refusal.TheVariants.{Damaged, Down}
use Rattle.calls.specs.Asking.{Answered, Refuses}
use Rattle.device.specs.declared.tear.Tear.{Tear}
use Rattle.journal.specs.declared.refused.Bank.{Bank}
use Rattle.calls.specs.Belonging.{IsNodeOf}
use Rattle.calls.specs.Failing.{NodeIsSet}
use Rattle.calls.specs.Names.{node_of}
use Rattle.calls.specs.Opening.{CoordinatorOpens, ShardOpens}
use Rattle.calls.specs.Views.{NodeView, refused}
use Rattle.calls.specs.declared.call.NodeCall.{NodeCall}
use Rattle.names.specs.declared.node_name.NodeName.{NodeName}
use Rattle.names.specs.declared.node_name.NodeName.TheVariants.{Coordinator, Shard}
use Rattle.calls.specs.declared.reply.Reply.{Reply}
use Rattle.cluster.specs.Worlds.{index_of, node_at}

-- the identity of a node of a store
abbrev pub identity_of : ℕ → ℕ → NodeName → Identity
identity_of store shards Coordinator = record { store = store; shards = shards; node = coordinator_number }
identity_of store shards (Shard s) = record { store = store; shards = shards; node = s }

module _ {D : Type 0} (state : D → State) (honest : D → Type 0) (moment : D → ℕ) (left_since : D → ℕ → List ℕ → Type 0) where
  -- The node has answered the call. If it is not the one that the call names in a store of this many shards, the call is refused, and the node is as before.
  abbrev pub Answers : ℕ → NodeView D → NodeCall → Reply → NodeView D → Type 0
  Answers shards was call reply is = Answered state honest moment left_since was call reply is ⊎ ((IsNodeOf shards (node_of call) was → ⊥) × (is ≡ was) × Refuses Damaged call reply)

  -- the node that a call names has answered it, and no other has changed
  pub record AnsweredBy (shards : ℕ) (old : List (NodeView D)) (was : NodeView D) (call : NodeCall) (reply : Reply) (new : List (NodeView D)) : Type 0 where
    pub is : NodeView D
    pub answers : Answers shards was call reply is
    pub new_is : new ≡ slice_set old (index_of (node_of call)) is

  -- One call, of the node that it names. If there is none the call is refused, and no node has changed.
  abbrev pub Called : ℕ → List (NodeView D) → NodeCall → Reply → List (NodeView D) → Type 0
  Called shards old call reply new = MatchOption (node_at old (node_of call)) ((new ≡ old) × Refuses Damaged call reply) (λ was. AnsweredBy shards old was call reply new)

  -- A device was revived: what a stop may have left is found; or it has failed again, and keeps what it has.
  pub record IsRevived (old new : D) : Type 0 where
    pub still_honest : honest old ↔ honest new
    pub found : ((honest old → Revived (state old) (state new)) × ((state new).failures ≡ (state old).failures)) ⊎ ((honest old → Keeps (state old) (state new)) × Failed (state old) (state new))
    pub counts : (state old).failures ≤ (state new).failures
    pub time : honest old → Elapses (moment old) (moment new) (left_since old) (left_since new) (left (state new))

  -- what an opening of the node of this name gives over two devices
  abbrev pub Opens : ℕ → ℕ → NodeName → D → D → NodeView D → Type 0
  Opens store shards Coordinator a b is = CoordinatorOpens state honest moment left_since a b (identity_of store shards Coordinator) is
  Opens store shards (Shard s) a b is = ShardOpens state honest moment left_since a b (identity_of store shards (Shard s)) is

  -- what a stop may have left of it was found
  abbrev pub IsFound : D → D → Type 0
  IsFound old new = (honest old → Revived (state old) (state new)) × ((state new).failures ≡ (state old).failures)

  -- A node was opened over two devices that were revived; or one of them failed again, and the node is not opened.
  pub record Reopened (store shards : ℕ) (name : NodeName) (old_a old_b : D) (is : NodeView D) : Type 0 where
    pub a : D
    pub b : D
    pub revived_a : IsRevived old_a a
    pub revived_b : IsRevived old_b b
    pub opens : (IsFound old_a a × IsFound old_b b × Opens store shards name a b is) ⊎ ((is ≡ refused Down a b) × (Failed (state old_a) (state a) ⊎ Failed (state old_b) (state b)))

-- the script of one device of the node of this name is set, and no other node has changed
pub record IsSetIn {D : Type 0} (set : D → ℕ → Tear → Type 0) (state : D → State) (honest : D → Type 0) (moment : D → ℕ) (left_since : D → ℕ → List ℕ → Type 0) (bank : Bank) (n : ℕ) (tear : Tear)
    (old : List (NodeView D)) (name : NodeName) (was : NodeView D) (new : List (NodeView D)) : Type 0 where
  pub is : NodeView D
  pub is_set : NodeIsSet set state honest moment left_since bank n tear was is
  pub new_is : new ≡ slice_set old (index_of name) is
