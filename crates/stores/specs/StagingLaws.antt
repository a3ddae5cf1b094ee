-- Laws of a shard that stages one more record: the store still stands for the same machine, with the same flows.
use Rattle.std.specs.Prelude.{◌≡◌, ◌≤◌, ◌<◌, ◌+◌, ℕ, true, List, [], ◌∷◌, ◌++◌, length, Some, None, Contains}
use Rattle.tuples.specs.declared.entry.Entry.{Entry}
use Rattle.tuples.specs.declared.entry.WriteId.{WriteId}
use Rattle.tuples.specs.Log.{HoldAfter}
use Rattle.tuples.specs.Parts.{part, takes_part}
use Rattle.records.specs.declared.record.Record.{Record}
use Rattle.records.specs.declared.record.Record.TheVariants.{Prepare, Dropped, Horizon}
use Rattle.records.specs.Replays.{IsShardImage, shard_state}
use Rattle.decisions.specs.Values.{BatchValue}
use Rattle.shard.specs.Shards.{learning}
use Rattle.laws.specs.Worlds.{shard_node}
use Rattle.laws.specs.Nodes.{NodeName, Nodes, SameBut, shard, up}
use Rattle.stores.specs.Flows.{HeldTicket, WriteHolds, id_of, to_write, writing}
use Rattle.stores.specs.Held.{IsOpen, IsRightBatch, IsRightTicket, IsRightVerdict}
use Rattle.stores.specs.Moments.{Moment, Running, replaced}
use Rattle.stores.specs.Stands.{Stands}

-- a node that is up stages one more record, and nothing else is changed
pub record StagesAt (n : NodeName) (r : Record) (old new : Nodes) : Type 0 where
  pub durable : List Record
  pub staged : List Record
  pub was : old.at n ≡ up durable staged
  pub now : new.at n ≡ up durable (staged ++ r ∷ [])
  pub others : SameBut n old new

-- the moment with these nodes
abbrev pub with_nodes : Moment → Nodes → Moment
with_nodes now next = record now { nodes = next }

-- a write flow that has called a shard, and holds its ticket
abbrev pub with_ticket : Moment → Running → WriteHolds → HeldTicket → Running
with_ticket now r h t = record r { holds = writing (record h { tickets = h.tickets ++ t ∷ [] }); seen = r.seen ++ now.machine ∷ [] }

-- a flow that runs and has not decided has this write
pub record IsFlowOf (now : Moment) (r : Running) (w : Entry) : Type 0 where
  pub there : Contains now.running r
  pub asked : r.asked ≡ to_write w.changes w.conditions
  pub id : id_of r.holds ≡ Some w.id
  pub undecided : r.decided ≡ None

-- The store has this id and this many shards, and a stop may leave this of each node, except for what is staged.
module _ (store shards : ℕ) (left : NodeName → List Record → Type 0) where
  -- a shard of a store that stands stages one more record, and its records are still a shard's
  pub record IsStaging (now : Moment) (next : Nodes) (s : ℕ) (r : Record) : Type 0 where
    pub stands : Stands store shards left now
    pub there : s < shards
    pub step : StagesAt (shard s) r now.nodes next
    pub image : IsShardImage (shard_node store shards s) ((step.durable ++ step.staged) ++ r ∷ [])

  -- the shard's part of a flow's write, whose conditions hold after the log if the write is open: in the same step the flow is given a ticket for it
  abbrev pub PreparesStand : Type 0
  PreparesStand = (now : Moment) (next : Nodes) (s : ℕ) (w : Entry) (r : Running) (h : WriteHolds) (t : HeldTicket) → IsStaging now next s (Prepare (part shards s w))
      → IsFlowOf now r w → r.holds ≡ writing h → takes_part shards s w ≡ true → (IsOpen now.nodes w → HoldAfter now.machine.log (part shards s w).conditions)
      → t.shard ≡ s → IsRightTicket shards left (with_nodes now next) w t
      → Stands store shards left (record (with_nodes now next) { running = replaced (with_ticket now r h t) now.running })

  -- a drop of a write of which a verdict says that it is aborted
  abbrev pub DropsStand : Type 0
  DropsStand = (now : Moment) (next : Nodes) (s : ℕ) (id : WriteId) → IsStaging now next s (Dropped id)
      → IsRightVerdict shards left now id
      → Stands store shards left (with_nodes now next)

  -- the record of learning a batch
  abbrev pub LearnsStand : Type 0
  LearnsStand = (now : Moment) (next : Nodes) (s : ℕ) (r : Record) (b : BatchValue) → (staging : IsStaging now next s r)
      → let memory = shard_state (staging.step.durable ++ staging.step.staged) in
      r ≡ learning (shard_node store shards s) memory b.from b.writes
      → IsRightBatch now.machine b → b.from ≤ memory.learned → memory.learned ≤ b.from + length b.writes
      → Stands store shards left (with_nodes now next)

  -- a horizon at or below the machine's
  abbrev pub CollectsStand : Type 0
  CollectsStand = (now : Moment) (next : Nodes) (s : ℕ) (place : ℕ) → IsStaging now next s (Horizon place)
      → place ≤ now.machine.horizon
      → Stands store shards left (with_nodes now next)
