-- A world of nodes and flows, as the store that the laws of runs speak of.
use Rattle.std.specs.Prelude.{◌≡◌, ◌≤◌, ◌+◌, ℕ, length, Option, Some, None}
use Rattle.tuples.specs.declared.object.Userset.{Userset}
use Rattle.calls.specs.Views.{NodeView}
use Rattle.names.specs.declared.node_name.NodeName as names
use Rattle.names.specs.declared.node_name.NodeName.TheVariants as called
use Rattle.care_flow.specs.Cares.{IsThere as IsCareThere}
use Rattle.commit_flow.specs.Flows.{seen_of}
use Rattle.laws.specs.Nodes.{NodeName, coordinator, shard}
use Rattle.stores.specs.Flows.{IsAsked, checking, reading, watching}
use Rattle.stores.specs.Stores.{FlowView, Store}
use Rattle.flow_turns.specs.StoreCalls.{IsNode}
use Rattle.flow_turns.specs.WritesSeen as writes
use Rattle.flow_turns.specs.CareTurns.{shows}
use Rattle.flow_turns.specs.AnswerTurns.{asked_of, shown_answer}
use Rattle.flow_turns.specs.CheckTurns.{check_of}
use Rattle.flow_turns.specs.ReadTurns.{read_of}
use Rattle.cluster.specs.declared.flow.Flow.{Flow}
use Rattle.cluster.specs.declared.flow.Flow.TheVariants.{Write, Read, Check, Watch, Care}
use Rattle.cluster.specs.Worlds.{WorldView, flow_at, node_at}

-- a node's name, as the calls say it
abbrev pub named : NodeName → names.NodeName
named coordinator = called.Coordinator
named (shard s) = called.Shard s

-- A flow of a store of this many shards is shown so, between two of its calls: a write by what it holds, and any other by what it was asked, in range, as
-- well. Only the store says which userset a check was asked about.
abbrev pub IsShownFlow : ℕ → Flow → FlowView → Type 0
IsShownFlow shards (Write w) view = (view ≡ writes.shown (seen_of w.flow) w.is_cancelled) × (w.flow.shards ≡ shards)
IsShownFlow shards (Read v) view = (view ≡ shown_answer (read_of v) (reading v.holds)) × (v.shards ≡ shards) × IsAsked shards (read_of v)
IsShownFlow shards (Check v) view = (x : Userset) × (view ≡ shown_answer (check_of x v) (checking v.holds)) × (v.shards ≡ shards) × IsAsked shards (check_of x v)
IsShownFlow shards (Watch v) view = (view ≡ shown_answer (asked_of v) (watching v.holds)) × IsAsked shards (asked_of v)
IsShownFlow shards (Care v) view = (view ≡ shows v) × IsCareThere shards v

-- so is what is in a slot
abbrev pub IsShownSlot : ℕ → Option Flow → Option FlowView → Type 0
IsShownSlot shards None None = Unit {0}
IsShownSlot shards None (Some view) = ⊥
IsShownSlot shards (Some flow) None = ⊥
IsShownSlot shards (Some flow) (Some view) = IsShownFlow shards flow view

-- The store shows the world: each node under its name, and each flow in its slot. Only the store says what lies in the memory of a coordinator whose
-- opening was refused.
pub record Shows {D : Type 0} (w : WorldView D) (s : Store D) : Type 0 where
  pub some : 1 ≤ w.shards
  pub count : length w.nodes ≡ w.shards + 1
  pub nodes : (n : NodeName) (v : NodeView D) → node_at w.nodes (named n) ≡ Some v → IsNode w.store w.shards s n v
  pub flows : (slot : ℕ) → IsShownSlot w.shards (flow_at w.flows slot) (s.flows slot)
