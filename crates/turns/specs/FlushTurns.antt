-- Laws of a flush that a flow was asked for: it is a turn of a run, in which that flow ends.
use Rattle.std.specs.Prelude.{◌≡◌, ◌<◌, ℕ, false, List, [], ◌∷◌, ◌++◌, Contains}
use Rattle.refusal.specs.declared.refusal.Refusal.TheVariants.{Down}
use Rattle.records.specs.declared.record.Record.{Record}
use Rattle.records.specs.Coordinators.{IsCoordinatorImage}
use Rattle.records.specs.Replays.{IsShardImage}
use Rattle.laws.specs.Worlds.{coordinator_node, shard_node}
use Rattle.laws.specs.Machines.{Machine}
use Rattle.laws.specs.Nodes.{NodeName, Nodes, coordinator, down, shard, up}
use Rattle.stores.specs.Flows.{to_flush}
use Rattle.stores.specs.FlushLaws.{FailsFlush, FlushesCoordinator, FlushesShard, all_kept}
use Rattle.stores.specs.Moments.{Moment, Running, ended}
use Rattle.stores.specs.Replies.{done}
use Rattle.stores.specs.Stands.{IsHorizonIn, Stands}
use Rattle.turns.specs.Runs.{Turns, answered, refuses}

-- the flow that flushes, after its call
abbrev pub with_flush : Running → Machine → Running
with_flush r m = record r { seen = r.seen ++ m ∷ [] }

-- A running flow that is to flush the coordinator, and is not cancelled, flushes it: it ends, done, in a turn of a run that keeps the whole log and
-- raises the horizon no further than a record that is there.
abbrev pub FlushesAnswer : ℕ → ℕ → (NodeName → List Record → Type 0) → (NodeName → List Record → Type 0) → Type 0
FlushesAnswer store shards left after = (now : Moment) (next : Nodes) (r : Running) → Stands store shards left now
    → (flush : FlushesCoordinator left after now.nodes next) → IsCoordinatorImage (coordinator_node store shards) (flush.durable ++ flush.staged)
    → r.asked ≡ to_flush coordinator → r.is_cancelled ≡ false
    → let later = record now { nodes = next; machine = all_kept now.machine (flush.durable ++ flush.staged); running = ended r.slot now.running } in
    Stands store shards after later × Turns shards (IsHorizonIn store shards left now.nodes) now r (answered done ∷ []) later

-- A running flow that is to flush the coordinator, and is not cancelled, fails to: it ends with Down in a turn of a run, which leaves the machine.
abbrev pub FailedFlushesAnswer : ℕ → ℕ → (NodeName → List Record → Type 0) → (NodeName → List Record → Type 0) → Type 0
FailedFlushesAnswer store shards left after = (now : Moment) (next : Nodes) (r : Running) → Stands store shards left now → FailsFlush left after now.nodes next
    → Contains now.running r → r.asked ≡ to_flush coordinator → r.is_cancelled ≡ false
    → let later = record now { nodes = next; running = ended r.slot now.running } in
    Stands store shards after later × Turns shards (IsHorizonIn store shards left now.nodes) now r (refuses Down ∷ []) later

-- A running flow that is to flush a shard, and is not cancelled, flushes it: it ends, done if the shard is up and with Down if it is not, in a turn of a
-- run.
abbrev pub ShardFlushesAnswer : ℕ → ℕ → (NodeName → List Record → Type 0) → (NodeName → List Record → Type 0) → Type 0
ShardFlushesAnswer store shards left after = (now : Moment) (next : Nodes) (s : ℕ) (r : Running) → Stands store shards left now → s < shards
    → (flush : FlushesShard s left after now.nodes next) → IsShardImage (shard_node store shards s) (flush.durable ++ flush.staged)
    → Contains now.running r → r.asked ≡ to_flush (shard s) → r.is_cancelled ≡ false
    → let later = record now { nodes = next; running = ended r.slot now.running } in
    Stands store shards after later
    × (next.at (shard s) ≡ up flush.records [] → Turns shards (IsHorizonIn store shards left now.nodes) now r (answered done ∷ []) later)
    × (next.at (shard s) ≡ down → Turns shards (IsHorizonIn store shards left now.nodes) now r (refuses Down ∷ []) later)
