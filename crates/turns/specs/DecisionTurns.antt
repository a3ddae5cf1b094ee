-- A law of a decision: after it the store stands with the flow that decides in its slot, and the step is a turn of a run.
use Rattle.std.specs.Prelude.{ℕ, List, [], ◌∷◌}
use Rattle.tuples.specs.declared.entry.Entry.{Entry}
use Rattle.records.specs.declared.record.Record.{Record}
use Rattle.laws.specs.Nodes.{NodeName, Nodes}
use Rattle.stores.specs.DecidingLaws.{IsDecider, IsDeciding, with_decided, with_decision}
use Rattle.stores.specs.Flows.{WriteHolds}
use Rattle.stores.specs.Moments.{Moment, Running, replaced}
use Rattle.stores.specs.Stands.{IsHorizonIn, Stands}
use Rattle.turns.specs.Runs.{Turns, goes_on}

-- The store has this id and this many shards, and a stop may leave this of each node, except for what is staged.
module _ (store shards : ℕ) (left : NodeName → List Record → Type 0) where
  -- with the flow that decided in its slot the store stands, and the step is a turn of a run in which the flow decides
  abbrev pub DecidersTurn : Type 0
  DecidersTurn = (now : Moment) (next : Nodes) (place : ℕ) (w : Entry) (r : Running) (h : WriteHolds) → IsDeciding store shards left now next place w
      → IsDecider store shards left now r h w
      → let after = record (with_decision now next w) { running = replaced (with_decided store shards left now r h w) now.running } in
      Stands store shards left after × Turns shards (IsHorizonIn store shards left now.nodes) now r (goes_on ∷ []) after
