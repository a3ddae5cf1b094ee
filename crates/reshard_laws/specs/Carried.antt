-- A store that is carried over to another number of shards rests at the same list: the statements of the laws.
use Rattle.std.specs.Prelude.{◌≡◌, ◌≤◌, ◌+◌, ◌*◌, ℕ, List, length, All}
use Rattle.tuples.specs.declared.entry.WriteId.{WriteId}
use Rattle.tuples.specs.declared.tuple.Tuple.{Tuple}
use Rattle.tuples.specs.Log.{is_at}
use Rattle.records.specs.declared.record.Record.{Record}
use Rattle.records.specs.Coordinators.{coordinator_state}
use Rattle.records.specs.Identity.{max_shards}
use Rattle.device.specs.Device.{State}
use Rattle.device.specs.declared.tear.Tear.{Tear}
use Rattle.cluster.specs.Openings.{IsOpenedOver}
use Rattle.cluster.specs.Worlds.{WorldView, flow_count}
use Rattle.headline.specs.ManyLives.{Life, LivesAll, LivesOn}
use Rattle.headline.specs.PastWrites.{IsPastOver}
use Rattle.headline.specs.Promised.{devices_at}
use Rattle.headline.specs.Shown.{Shows}
use Rattle.laws.specs.Machines.{Machine}
use Rattle.laws.specs.Nodes.{NodeName, coordinator}
use Rattle.reshard.specs.Caring.{IsCaredFor}
use Rattle.reshard.specs.Made.{IsCarriedOver}
use Rattle.stores.specs.Moments.{Moment}
use Rattle.stores.specs.Stores.{IsToldOver, RestsOver, StandsOver, Store, stops}
use Rattle.turns.specs.Promises.{StopsBetween}
use Rattle.turns.specs.Reopens.{Reopened}
use Rattle.reshard_laws.specs.Cared.{KeepsList}

module _ {D : Type 0} (state : D → State) (honest : D → Type 0) (moment : D → ℕ) (left_since : D → ℕ → List ℕ → Type 0) where
  -- The devices of a store of this many shards rest at a machine, for which a store of another number of shards with the same id stood: at all of its list,
  -- the horizon being the same. The coordinator was opened as often as the old one, so its next opening is of a later epoch than each id that the old one
  -- gave: none of them is given again, each that was reported aborted still is, and so is each that the list does not have above the horizon.
  pub record CarriesOn (store old_shards shards : ℕ) (old new : NodeName → D × D) (m : Machine) : Type 0 where
    pub all_kept : m.kept ≡ length m.log
    pub rests : RestsOver state honest store shards new m
    pub epoch : (was is : List Record) → stops state honest store old_shards old coordinator was → stops state honest store shards new coordinator is
        → (coordinator_state is).epoch ≡ (coordinator_state was).epoch
    pub told : (id : WriteId) → IsToldOver state honest store old_shards old m id → IsToldOver state honest store shards new m id
    pub past : (id : WriteId) → IsPastOver state honest moment left_since store old_shards old m id → IsPastOver state honest moment left_since store shards new m id

  -- The old store went through cares that leave its list as it is, and the devices that were made rest where it then stands.
  pub record KeepsAndCarries (store old_shards shards : ℕ) (any : D) (s : Store D) (now : Moment) (cared : WorldView D) (made : List D) : Type 0 where
    pub keeps : KeepsList state honest moment left_since store old_shards s now cared
    pub count : length made ≡ 2 * (shards + 1)
    pub carries : CarriesOn store old_shards shards keeps.later.devices (devices_at any made) keeps.after.machine

  -- Whatever moment a store stands for in which no flow runs: what is carried over of it rests.
  abbrev pub WhatIsCarriedOverRests : Type 0
  WhatIsCarriedOverRests = (any : D) (old new : WorldView D) (s : Store D) (now : Moment) (shards : ℕ) (given made : List D) → 1 ≤ shards → shards ≤ max_shards
      → Shows old s → flow_count old.flows ≡ 0 → StandsOver state honest old.store old.shards s now
      → IsCaredFor state honest moment left_since old new → IsCarriedOver state honest new shards given made → All honest given
      → KeepsAndCarries old.store old.shards shards any s now new made

  -- A closed store was opened over its devices, and then carried over: moves of an opening lead from the machine at which it rested, and then those of the cares.
  pub record IsCarriedFrom (store old_shards shards : ℕ) (any : D) (old : List D) (m : Machine) (ids : List WriteId) (cared : WorldView D) (made : List D) : Type 0 where
    pub first : Store D
    pub reopened : Reopened state honest moment left_since store old_shards (devices_at any old) m ids first
    pub inside : StopsBetween state honest moment left_since store old_shards (devices_at any old) first.devices m reopened.after.machine
    pub rest : KeepsAndCarries store old_shards shards any first reopened.after cared made
    pub told_stays : All (IsToldOver state honest store shards (devices_at any made) rest.keeps.after.machine) ids

  -- Whatever machine the devices of a closed store rest at, and whoever was told what.
  abbrev pub ClosedStoresAreCarriedOver : Type 0
  ClosedStoresAreCarriedOver = (any : D) (store old_shards shards : ℕ) (old : List D) (opened cared : WorldView D) (given made : List D) (m : Machine) (ids : List WriteId)
      → 1 ≤ old_shards → old_shards ≤ max_shards → length old ≡ 2 * (old_shards + 1) → 1 ≤ shards → shards ≤ max_shards
      → RestsOver state honest store old_shards (devices_at any old) m → All (IsToldOver state honest store old_shards (devices_at any old) m) ids
      → IsOpenedOver state honest moment left_since store old_shards old opened
      → IsCaredFor state honest moment left_since opened cared → IsCarriedOver state honest cared shards given made → All honest given
      → IsCarriedFrom store old_shards shards any old m ids cared made

  -- A place of the old list shows the same tuples at every place of whatever lives the new store has: it goes on after the whole list. So each token reads
  -- what it read before, if it is not below the horizon.
  abbrev pub TokensReadTheSame : (D → ℕ → Tear → Type 0) → Type 0
  TokensReadTheSame set = (any : D) (store old_shards shards : ℕ) (old : NodeName → D × D) (made new : List D) (m : Machine) (ids : List WriteId) (lives : List Life)
      → 1 ≤ shards → shards ≤ max_shards → length made ≡ 2 * (shards + 1) → CarriesOn store old_shards shards old (devices_at any made) m
      → All (IsToldOver state honest store old_shards old m) ids → LivesAll set state honest moment left_since store shards any made lives new
      → (on : LivesOn set state honest moment left_since store shards any made m ids lives new)
      × ((place : ℕ) (t : Tuple) → place ≤ length m.log → is_at on.after.log place t ≡ is_at m.log place t)
