-- A script over a store of its own is one life of it; and if the store is carried over, one life after another.
use Rattle.std.specs.Prelude.{ℕ, List, [], ◌++◌, All, Option}
use Rattle.cluster.specs.Steps.{Takes}
use Rattle.cluster.specs.Worlds.{WorldView}
use Rattle.device.specs.Device.{State}
use Rattle.device.specs.declared.tear.Tear.{Tear}
use Rattle.headline.specs.Acts.{LivesActing}
use Rattle.headline.specs.Promised.{devices_at}
use Rattle.laws.specs.Machines.{Machine}
use Rattle.laws.specs.Nodes.{NodeName}
use Rattle.reshard_laws.specs.Carried.{KeepsAndCarries}
use Rattle.scripts.specs.Cares.{Cares}
use Rattle.scripts.specs.Resharding.{IsMoved, IsReady, Reshards}
use Rattle.scripts.specs.Runs.{last_line}
use Rattle.scripts.specs.Sims.{BrokeOver, RanOver, begun}
use Rattle.scripts.specs.Stepping.{IsNext, SetsScript, ShowsRows, shards_in}
use Rattle.tuples.specs.declared.entry.WriteId.{WriteId}
use Rattle.stores.specs.NewStores.{empty_machine}
use Rattle.stores.specs.Stores.{IsToldOver, RestsOver}
use Rattle.scripts.specs.Deeds.{Story, acts_of, done_for, more_lives, one_life, told_by}

-- Given which devices there are for the nodes of a store that is carried over
module _ {D : Type 0} (gives : D → Type 0) (set : D → ℕ → Tear → Type 0) (state : D → State) (honest : D → Type 0) (moment : D → ℕ) (left_since : D → ℕ → List ℕ → Type 0) (any : D) where
  -- A store with this id and this many shards was opened over devices that rested at a machine, with these told, and this is its story. It is one life; and if
  -- the store is carried over, that life ends before it is cared for. The cares leave its list as it is, and the devices of what it became rest at the machine
  -- for which it then stands, all of whose list is kept. And it lives on from whatever machine its devices rest at.
  abbrev pub Lives : (store shards : ℕ) → (NodeName → D × D) → Machine → List WriteId → WorldView D → Story (WorldView D) → WorldView D → Type 0
  Lives store shards devices m ids opened (one_life deeds) new = LivesActing set state honest moment left_since store shards devices m ids opened (acts_of deeds) (told_by deeds) new
  Lives store shards devices m ids opened (more_lives deeds move story) new = (life : LivesActing set state honest moment left_since store shards devices m ids opened (acts_of deeds) (told_by deeds) move.was)
      × Cares (Takes state honest moment left_since) move.was move.cared × IsReady state honest move.was × (carried : IsMoved gives state honest moment left_since move.was move.cared move.shards move.new)
      × KeepsAndCarries state honest moment left_since store shards move.shards any life.acted.later life.acted.after move.cared carried.made
      × ((later : Machine) (more : List WriteId) → RestsOver state honest store move.shards (devices_at any carried.made) later → All (IsToldOver state honest store move.shards (devices_at any carried.made) later) more
      → Lives store move.shards (devices_at any carried.made) later more move.new story new)

module _ {D : Type 0} (gives : D → Type 0) (set : D → ℕ → Tear → Type 0) (state : D → State) (honest : D → Type 0) (moment : D → ℕ) (left_since : D → ℕ → List ℕ → Type 0) where
  -- A script ran to its end over a store that was opened over these devices: what was done for its lines is one life of the store, from the empty log, or a
  -- chain of lives, the first of which is.
  pub record RanAsLife (store shards : ℕ) (devices : List D) (in_before in_after out_before out_after : Option (List ℕ)) : Type 0 where
    pub over : RanOver gives set state honest moment left_since store shards devices in_before in_after out_before out_after
    pub life : (any : D) →
        let done = done_for (Takes state honest moment left_since) IsNext (ShowsRows state honest) (SetsScript set state honest moment left_since) (Reshards gives state honest moment left_since) shards_in
        (begun store over.world) (over.ran.lines ++ last_line over.ran.last) over.ran.text over.after over.ran.prints in
        Lives gives set state honest moment left_since any store shards (devices_at any devices) empty_machine [] over.world done over.after.running.store

  -- or it broke off, and so is what was done for the lines that were answered
  pub record BrokeAsLife (store shards : ℕ) (devices : List D) (in_before in_after out_before out_after : Option (List ℕ)) : Type 0 where
    pub over : BrokeOver gives set state honest moment left_since store shards devices in_before in_after out_before out_after
    pub life : (any : D) →
        let done = done_for (Takes state honest moment left_since) IsNext (ShowsRows state honest) (SetsScript set state honest moment left_since) (Reshards gives state honest moment left_since) shards_in
        (begun store over.world) over.broke.answered over.broke.text over.after over.broke.prints in
        Lives gives set state honest moment left_since any store shards (devices_at any devices) empty_machine [] over.world done over.after.running.store
