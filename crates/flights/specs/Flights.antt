-- What flies, what becomes of it, and what stays here.
use Rattle.std.specs.Prelude.{◌≡◌, ◌⊎◌, ◌+◌, ◌<◌, ◌^◌, ◌++◌, ℕ, Bool, true, false, List, length, Option, Some, None, slice_get}
use mathlib.Core.List.{IsPrefix}
use Rattle.away.specs.Aways.{lent_honest, lent_state}
use Rattle.away.specs.declared.away.Away.{Away}
use Rattle.records.specs.declared.record.Record.{Record}
use Rattle.records.specs.Replays.{shard_state}
use Rattle.device.specs.Device.{State, left}
use Rattle.journal.specs.Lending.{Flies}
use Rattle.journal.specs.Records.{Finds, HasRecords, View}
use Rattle.published.specs.Known.{Known}
use Rattle.tuples.specs.declared.entry.Entry.{Entry}
use Rattle.shard.specs.Keeping.{prepared_ids}
use Rattle.shard.specs.Shards.{ShardView}
use Rattle.shard.specs.declared.lending.Flying.{Flying as OfShard}
use Rattle.decisions.specs.Coordinators.{CoordinatorView}
use Rattle.coordinator.specs.Lending.{IsToldOf}
use Rattle.coordinator.specs.declared.lending.Flying.{Flying as OfCoordinator}
use Rattle.calls.specs.Views.{NodeView, coordinator, refused, shard}
use Rattle.calls.specs.declared.lending.Flying.{Flying}
use Rattle.calls.specs.declared.lending.Flying.TheVariants.{Coordinator, Shard}
use Rattle.ties.specs.ShardTies.{AreRowsOf}
use Rattle.sides.specs.CoordinatorSides.{LogSide}
use Rattle.sides.specs.Lending.{IsSoundIn}
use Rattle.sides.specs.Sides.{Side}
use Rattle.sides.specs.declared.launch.Launch.{Launch}

-- what flies is of a coordinator
abbrev pub is_of_coordinator : Flying → Bool
is_of_coordinator (Coordinator flying) = true
is_of_coordinator (Shard flying) = false

-- of which kind of node the journal is that leaves, and its records as it does
abbrev pub launch_of : {D : Type 0} → View D → Flying → Launch
launch_of j flying = record { of_coordinator = is_of_coordinator flying; durable = j.durable; staged = j.staged }

-- one flight more can be numbered
abbrev pub HasNumber : List Launch → Type 0
HasNumber launches = length launches + 1 < 2 ^ 64

-- a flight as its callers see it: the journal with the devices, how much flies, and the flight's number
pub record FlightView (D : Type 0) : Type 0 where
  pub journal : View D
  pub flying : Flying
  pub launch : ℕ

-- of a shard's records all that was staged flies, and it is told as it is
pub record IsToldAll (x : Launch) (flying : OfShard) : Type 0 where
  pub of : x.of_coordinator ≡ false
  pub sent : Flies x.staged flying.sent
  pub all : flying.sent.count ≡ length x.staged
  pub prepares : flying.prepares ≡ length (prepared_ids x.staged)
  pub learned : flying.learned ≡ (shard_state (x.durable ++ x.staged)).learned

-- the same of a coordinator's
pub record IsToldAllOf (x : Launch) (flying : OfCoordinator) : Type 0 where
  pub of : x.of_coordinator ≡ true
  pub sent : Flies x.staged flying.sent
  pub all : flying.sent.count ≡ length x.staged
  pub told : IsToldOf x.staged flying

abbrev pub IsToldBy : Launch → Flying → Type 0
IsToldBy x (Shard flying) = IsToldAll x flying
IsToldBy x (Coordinator flying) = IsToldAllOf x flying

-- what was durable when the devices left is so, and what flies is the first of what is staged
pub record StaysBehind {D : Type 0} (x : Launch) (v : ShardView (Away D)) : Type 0 where
  pub of : x.of_coordinator ≡ false
  pub durable : v.durable ≡ x.durable
  pub staged : IsPrefix x.staged v.staged

-- the same of a coordinator, which is up
pub record LogStaysBehind {D : Type 0} (x : Launch) (v : CoordinatorView (Away D)) : Type 0 where
  pub of : x.of_coordinator ≡ true
  pub durable : v.durable ≡ x.durable
  pub staged : IsPrefix x.staged v.staged
  pub up : v.is_down ≡ false

abbrev pub StaysIn : {D : Type 0} → Launch → Option (NodeView (Away D)) → Type 0
StaysIn x (Some (shard v)) = StaysBehind x v
StaysIn x (Some (coordinator v)) = ⊥
StaysIn x (Some (refused e a b)) = ⊥
StaysIn x None = ⊥

abbrev pub LogStaysIn : {D : Type 0} → Launch → Option (NodeView (Away D)) → Type 0
LogStaysIn x (Some (coordinator v)) = LogStaysBehind x v
LogStaysIn x (Some (shard v)) = ⊥
LogStaysIn x (Some (refused e a b)) = ⊥
LogStaysIn x None = ⊥

-- with what flies and without it the records are the shard's rows of the list
pub record AreRowsAround (shards s : ℕ) (x : Launch) (pass : Known Entry) : Type 0 where
  pub without : AreRowsOf shards s pass.seen pass.horizon (shard_state x.durable)
  pub behind : AreRowsOf shards s pass.seen pass.horizon (shard_state (x.durable ++ x.staged))

module _ {D : Type 0} (state : D → State) (honest : D → Type 0) where
  -- honest devices, which have the durable records, and a journal that is up
  pub record IsReady (journal : View D) (flying : Flying) : Type 0 where
    pub honest_a : honest journal.a
    pub honest_b : honest journal.b
    pub up : journal.is_down ≡ false
    pub told : IsToldBy (launch_of journal flying) flying

  -- What comes back of a launch: if the journal is up, all that flew is durable, and whatever a stop leaves has the records with it or without.
  pub record HasFlown (x : Launch) (flown : View D) (flying : Flying) : Type 0 where
    pub honest_a : honest flown.a
    pub honest_b : honest flown.b
    pub told : IsToldBy x flying
    pub kept : flown.is_down ≡ false → (flown.durable ≡ x.durable ++ x.staged) × HasRecords (state flown.a) (state flown.b) flown.durable
    pub leaves : (rs : List Record) → Finds (left (state flown.a)) (left (state flown.b)) rs → (rs ≡ x.durable) ⊎ (rs ≡ x.durable ++ x.staged)

  -- it comes back of the launch of this number
  abbrev pub HasCome : List Launch → ℕ → View D → Flying → Type 0
  HasCome launches launch flown flying = (x : Launch) × (slice_get launches launch ≡ Some x) × HasFlown x flown flying

  -- a shard without its devices, which left with this launch
  pub record IsOut (rests : Type 0) (shards : ℕ) (side : Side (Away D)) (x : Launch) : Type 0 where
    pub sound : IsSoundIn (lent_state state) (lent_honest honest) side.node
    pub stays : StaysIn x side.node
    pub rows : rests → AreRowsAround shards side.number x side.pass

  -- with the launch of this number
  abbrev pub IsOutOn : Type 0 → ℕ → List Launch → Side (Away D) → ℕ → Type 0
  IsOutOn rests shards launches side launch = (x : Launch) × (slice_get launches launch ≡ Some x) × IsOut rests shards side x

-- the coordinator without its devices, which left with the launch of this number
abbrev pub IsLogOutOn : {D : Type 0} → List Launch → LogSide (Away D) → ℕ → Type 0
IsLogOutOn launches side launch = (x : Launch) × (slice_get launches launch ≡ Some x) × LogStaysIn x side.node
