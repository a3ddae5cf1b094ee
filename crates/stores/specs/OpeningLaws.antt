-- Laws of a shard's opening: the store still stands for the same machine, with the same flows.
use Rattle.std.specs.Prelude.{◌≡◌, ◌≢◌, ◌↔◌, ℕ, List, [], ◌∷◌, ◌++◌}
use Rattle.records.specs.declared.record.Record.{Record}
use Rattle.records.specs.declared.record.Record.TheVariants.{Epoch}
use Rattle.records.specs.Replays.{IsShardImage}
use Rattle.laws.specs.Worlds.{shard_node}
use Rattle.stores.specs.Moments.{Moment}
use Rattle.laws.specs.Nodes.{NodeName, Nodes, SameBut, shard, up}
use Rattle.stores.specs.StagingLaws.{with_nodes}
use Rattle.stores.specs.Stands.{Stands}

-- A shard is opened, whatever it was before: it finds records that a stop could leave, and from then on a stop leaves these with the record
-- of the opening, and no others.
pub record OpensShard (store shards s : ℕ) (left after : NodeName → List Record → Type 0) (old new : Nodes) : Type 0 where
  pub found : List Record
  pub epoch : ℕ
  pub was_left : left (shard s) found
  pub now : new.at (shard s) ≡ up (found ++ Epoch epoch store shards s ∷ []) []
  pub others : SameBut (shard s) old new
  pub same : (n : NodeName) (rs : List Record) → n ≢ shard s → after n rs ↔ left n rs
  pub here : (rs : List Record) → after (shard s) rs ↔ (rs ≡ found ++ Epoch epoch store shards s ∷ [])

-- an opening of a shard leaves what the store stands for
abbrev pub ShardOpeningsStand : ℕ → ℕ → (NodeName → List Record → Type 0) → (NodeName → List Record → Type 0) → Type 0
ShardOpeningsStand store shards left after = (now : Moment) (next : Nodes) (s : ℕ) → Stands store shards left now
    → (opens : OpensShard store shards s left after now.nodes next) → IsShardImage (shard_node store shards s) (opens.found ++ Epoch opens.epoch store shards s ∷ [])
    → Stands store shards after (with_nodes now next)
