-- A script that is set on a device of a world: what it changes, and what a store that shows the world keeps.
use Rattle.std.specs.Prelude.{◌≡◌, ℕ, List, MatchOption}
use Rattle.device.specs.Device.{State}
use Rattle.device.specs.declared.tear.Tear.{Tear}
use Rattle.journal.specs.declared.refused.Bank.{Bank}
use Rattle.names.specs.declared.node_name.NodeName.{NodeName}
use Rattle.cluster.specs.Nodes.{IsSetIn}
use Rattle.cluster.specs.Worlds.{WorldView, node_at}
use Rattle.stores.specs.Moments.{Moment}
use Rattle.laws.specs.Nodes as laws
use Rattle.records.specs.declared.record.Record.{Record}
use Rattle.stores.specs.Stores.{NamesHorizon, StandsOver, Store, stops}
use Rattle.headline.specs.Shown.{Shows}

-- A store that shows the world after the script, and stands for each moment that the store before it stands for. No horizon is named that was not, and a
-- stop leaves of each node nothing that it could not leave before.
pub record StandsAsBefore {D : Type 0} (state : D → State) (honest : D → Type 0) (old : WorldView D) (s : Store D) (new : WorldView D) : Type 0 where
  pub later : Store D
  pub shows : Shows new later
  pub stands : (now : Moment) → StandsOver state honest old.store old.shards s now → StandsOver state honest old.store old.shards later now
  pub named : (now : Moment) (x : ℕ) → StandsOver state honest old.store old.shards s now → NamesHorizon state honest old.store old.shards later now x
      → NamesHorizon state honest old.store old.shards s now x
  pub leaves : (now : Moment) (n : laws.NodeName) (found : List Record) → StandsOver state honest old.store old.shards s now → stops state honest old.store old.shards later.devices n found
      → stops state honest old.store old.shards s.devices n found

-- Given what it is to be set to fail, what a device holds and whether it is honest, how often a stop may have come at it, and what a stop since then may
-- have left
module _ {D : Type 0} (set : D → ℕ → Tear → Type 0) (state : D → State) (honest : D → Type 0) (moment : D → ℕ) (left_since : D → ℕ → List ℕ → Type 0) where
  -- the script of one device of the node of this name is set, if the world has the node, and nothing else has changed
  pub record SetsScript (bank : Bank) (n : ℕ) (tear : Tear) (name : NodeName) (old new : WorldView D) : Type 0 where
    pub nodes : MatchOption (node_at old.nodes name) (new.nodes ≡ old.nodes) (λ was. IsSetIn set state honest moment left_since bank n tear old.nodes name was new.nodes)
    pub rest : new ≡ record old { nodes = new.nodes }

  -- whatever the script and the device, the store stands as before
  abbrev pub ScriptsKeep : Type 0
  ScriptsKeep = (bank : Bank) (n : ℕ) (tear : Tear) (name : NodeName) (old new : WorldView D) (s : Store D) → Shows old s → SetsScript bank n tear name old new
      → StandsAsBefore state honest old s new
