-- What an opening of a whole store gives.
use Rattle.std.specs.Prelude.{◌≡◌, ◌++◌, ℕ, zero, suc, List, [], ◌∷◌}
use Rattle.device.specs.Device.{State}
use Rattle.calls.specs.Views.{NodeView}
use Rattle.names.specs.declared.node_name.NodeName.{NodeName}
use Rattle.names.specs.declared.node_name.NodeName.TheVariants.{Coordinator, Shard}
use Rattle.cluster.specs.Nodes.{Reopened}
use Rattle.cluster.specs.Worlds.{WorldView}

-- the name of the node at a position among the nodes
abbrev pub name_at : ℕ → NodeName
name_at zero = Coordinator
name_at (suc s) = Shard s

module _ {D : Type 0} (state : D → State) (honest : D → Type 0) (moment : D → ℕ) (left_since : D → ℕ → List ℕ → Type 0) (store shards : ℕ) where
  -- these nodes, from this position on, were opened, each over the next two of these devices, which were revived
  abbrev pub AreOpened : ℕ → List D → List (NodeView D) → Type 0
  AreOpened place [] [] = Unit {0}
  AreOpened place (a ∷ b ∷ devices) (is ∷ nodes) = Reopened state honest moment left_since store shards (name_at place) a b is × AreOpened (suc place) devices nodes
  AreOpened place devices nodes = ⊥

  -- the node of this name was opened over the next two of these devices, and stands after the others
  pub record OpensNext (name : NodeName) (old : List D) (old_nodes : List (NodeView D)) (new : List D) (new_nodes : List (NodeView D)) : Type 0 where
    pub a : D
    pub b : D
    pub is : NodeView D
    pub opens : Reopened state honest moment left_since store shards name a b is
    pub devices_are : old ≡ a ∷ b ∷ new
    pub nodes_are : new_nodes ≡ old_nodes ++ is ∷ []

  -- each node was opened over its own devices, and no flow runs
  pub record IsOpenedOver (devices : List D) (new : WorldView D) : Type 0 where
    pub store_is : new.store ≡ store
    pub shards_is : new.shards ≡ shards
    pub nodes : AreOpened 0 devices new.nodes
    pub flows : new.flows ≡ []
