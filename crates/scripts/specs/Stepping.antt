-- What a cluster is as a store of scripts.
use Rattle.std.specs.Prelude.{◌≡◌, ℕ, List, Option, None, MatchOption, Result, Err}
use Rattle.std.specs.Global.{Vec}
use Rattle.calls.specs.Rows.{RowsOf}
use Rattle.cluster.specs.Flows.{next_name_of}
use Rattle.cluster.specs.Nodes.{IsSetIn}
use Rattle.cluster.specs.Worlds.{WorldView, flow_at, node_at}
use Rattle.device.specs.Device.{State}
use Rattle.device.specs.declared.tear.Tear.{Tear}
use Rattle.journal.specs.declared.refused.Bank.{Bank}
use Rattle.names.specs.declared.call_name.CallName.{CallName}
use Rattle.names.specs.declared.node_name.NodeName.{NodeName}
use Rattle.names.specs.declared.node_name.NodeName.TheVariants.{Shard}
use Rattle.refusal.specs.declared.refusal.Refusal.{Refusal}
use Rattle.refusal.specs.declared.refusal.Refusal.TheVariants.{BadRequest}
use Rattle.tuples.specs.declared.version.Version.{Version}

-- how many shards it has
abbrev pub shards_in : {D : Type 0} → WorldView D → ℕ
shards_in w = w.shards

-- the next call of the flow in a slot; none if there is no flow
abbrev pub IsNext : {D : Type 0} → WorldView D → ℕ → Option CallName → Type 0
IsNext w slot next = MatchOption (flow_at w.flows slot) (next ≡ None) (λ flow. next ≡ next_name_of flow)

module _ {D : Type 0} (state : D → State) (honest : D → Type 0) where
  -- what the shard of this number reports of its versions
  abbrev pub ShowsRows : WorldView D → ℕ → Result (Vec Version) Refusal → Type 0
  ShowsRows w shard result = MatchOption (node_at w.nodes (Shard shard)) (result ≡ Err BadRequest) (λ node. RowsOf state honest node result)

module _ {D : Type 0} (set : D → ℕ → Tear → Type 0) (state : D → State) (honest : D → Type 0) (moment : D → ℕ) (left_since : D → ℕ → List ℕ → Type 0) where
  -- the script of one device of the node of this name is set, if it is there, and nothing else has changed
  abbrev pub SetsScript : WorldView D → NodeName → Bank → ℕ → Tear → WorldView D → Type 0
  SetsScript old name bank n tear new = MatchOption (node_at old.nodes name) (new.nodes ≡ old.nodes)
      (λ was. IsSetIn set state honest moment left_since bank n tear old.nodes name was new.nodes)
      × (new ≡ record old { nodes = new.nodes })
