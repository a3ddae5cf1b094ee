-- What a store keeps between two steps.
use Rattle.std.specs.Prelude.{◌≡◌, ◌+◌, ℕ, List, length, Option, Some}
use Rattle.cluster.specs.declared.flow.Flow.{Flow}
use Rattle.cluster.specs.Flows.{IsOf}
use Rattle.cluster.specs.Worlds.{WorldView, flow_at}

-- its flows are of a store of this many shards
abbrev pub AreFlows : ℕ → List (Option Flow) → Type 0
AreFlows shards flows = (slot : ℕ) (flow : Flow) → flow_at flows slot ≡ Some flow → IsOf shards flow

pub record IsWorld {D : Type 0} (w : WorldView D) : Type 0 where
  pub count : length w.nodes ≡ w.shards + 1
  pub flows : AreFlows w.shards w.flows
