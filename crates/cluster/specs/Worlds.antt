-- A store with its nodes and flows, as its callers see it.
use Rattle.std.specs.Prelude.{◌≡◌, ◌≢◌, ◌+◌, ℕ, List, Option, None, count_by, is_some, slice_get, slice_index_or}
use Rattle.calls.specs.Views.{NodeView}
use Rattle.names.specs.declared.node_name.NodeName.{NodeName}
use Rattle.names.specs.declared.node_name.NodeName.TheVariants.{Coordinator, Shard}
use Rattle.cluster.specs.declared.flow.Flow.{Flow}

-- The number of the store and of its shards; its nodes, the coordinator before the shards; and what is in each slot.
pub record WorldView (D : Type 0) : Type 0 where
  pub store : ℕ
  pub shards : ℕ
  pub nodes : List (NodeView D)
  pub flows : List (Option Flow)

-- where a node stands among the nodes
abbrev pub index_of : NodeName → ℕ
index_of Coordinator = 0
index_of (Shard s) = s + 1

-- the node of this name, if it is there
abbrev pub node_at : {D : Type 0} → List (NodeView D) → NodeName → Option (NodeView D)
node_at nodes name = slice_get nodes (index_of name)

-- the flow in a slot, if there is one
abbrev pub flow_at : List (Option Flow) → ℕ → Option Flow
flow_at flows slot = slice_index_or flows slot None

-- how many flows run
abbrev pub flow_count : List (Option Flow) → ℕ
flow_count flows = count_by is_some flows

-- a slot has this, and every other slot what it had
pub record Puts (old : List (Option Flow)) (slot : ℕ) (flow : Option Flow) (new : List (Option Flow)) : Type 0 where
  pub at : flow_at new slot ≡ flow
  pub others : (other : ℕ) → other ≢ slot → flow_at new other ≡ flow_at old other
