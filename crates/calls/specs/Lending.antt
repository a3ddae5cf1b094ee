-- A node whose devices were lent, and what it is once they are back.
use Rattle.std.specs.Prelude.{◌≡◌, false, length, take}
use Rattle.away.specs.Aways.{lent_honest, lent_state}
use Rattle.away.specs.declared.away.Away.{Away}
use Rattle.device.specs.Device.{State}
use Rattle.journal.specs.Lending.{Flies}
use Rattle.journal.specs.Records.{View}
use Rattle.decisions.specs.Coordinators.{CoordinatorView, IsRunning, coordinator_journal}
use Rattle.coordinator.specs.Lending.{HasFlown as HasFlownOfCoordinator, IsLentCoordinator, IsToldOf, landed_coordinator}
use Rattle.coordinator.specs.declared.lending.Flying.{Flying as OfCoordinator}
use Rattle.shard.specs.Keeping.{prepared_ids}
use Rattle.shard.specs.Lending.{HasFlown as HasFlownOfShard, IsLentShard, landed_shard}
use Rattle.shard.specs.Shards.{IsUp, ShardView, journal_of, memory}
use Rattle.shard.specs.declared.lending.Flying.{Flying as OfShard}
use Rattle.calls.specs.Views.{NodeView, coordinator, shard}
use Rattle.calls.specs.declared.lending.Flying.{Flying}
use Rattle.calls.specs.declared.lending.Flying.TheVariants.{Coordinator, Shard}

module _ {D : Type 0} (state : D → State) (honest : D → Type 0) where
  -- all that is staged flies, and what stays is the coordinator as it was, without its devices
  pub record CoordinatorLends (v : CoordinatorView D) (u : CoordinatorView (Away D)) (flight : View D) (flying : OfCoordinator) : Type 0 where
    pub flight_is : flight ≡ coordinator_journal v
    pub stays : IsLentCoordinator state v u
    pub all : flying.sent.count ≡ length v.staged
    pub sent : Flies v.staged flying.sent
    pub told : v.is_down ≡ false → IsToldOf v.staged flying
    pub running : IsRunning state honest v → IsRunning (lent_state state) (lent_honest honest) u

  -- the same for a shard
  pub record ShardLends (v : ShardView D) (u : ShardView (Away D)) (flight : View D) (flying : OfShard) : Type 0 where
    pub flight_is : flight ≡ journal_of v
    pub stays : IsLentShard state v u
    pub all : flying.sent.count ≡ length v.staged
    pub sent : Flies v.staged flying.sent
    pub prepares : v.is_down ≡ false → flying.prepares ≡ length (prepared_ids v.staged)
    pub learned : v.is_down ≡ false → honest v.a → honest v.b → flying.learned ≡ (memory v).learned
    pub up : IsUp state honest v → IsUp (lent_state state) (lent_honest honest) u

  abbrev pub NodeLends : NodeView D → NodeView (Away D) → View D → Flying → Type 0
  NodeLends (coordinator v) (coordinator u) flight (Coordinator flying) = CoordinatorLends v u flight flying
  NodeLends (shard v) (shard u) flight (Shard flying) = ShardLends v u flight flying
  NodeLends v u flight flying = ⊥

  -- What flew is the beginning of what is staged. If all is up it is told as it was, and over honest devices the flight made it durable.
  pub record CoordinatorMayLand (v : CoordinatorView (Away D)) (flown : View D) (flying : OfCoordinator) : Type 0 where
    pub sent : Flies v.staged flying.sent
    pub told : v.is_down ≡ false → flown.is_down ≡ false → IsToldOf (take flying.sent.count v.staged) flying
    pub has_flown : v.is_down ≡ false → flown.is_down ≡ false → honest flown.a → honest flown.b → HasFlownOfCoordinator state honest v flown flying.sent.count

  -- the same for a shard
  pub record ShardMayLand (v : ShardView (Away D)) (flown : View D) (flying : OfShard) : Type 0 where
    pub sent : Flies v.staged flying.sent
    pub prepares : v.is_down ≡ false → flown.is_down ≡ false → flying.prepares ≡ length (prepared_ids (take flying.sent.count v.staged))
    pub has_flown : v.is_down ≡ false → flown.is_down ≡ false → honest flown.a → honest flown.b → HasFlownOfShard state honest v flown flying

  abbrev pub NodeMayLand : NodeView (Away D) → View D → Flying → Type 0
  NodeMayLand (coordinator v) flown (Coordinator flying) = CoordinatorMayLand v flown flying
  NodeMayLand (shard v) flown (Shard flying) = ShardMayLand v flown flying
  NodeMayLand v flown flying = ⊥

  -- the node has its devices again, and is up if both were
  pub record CoordinatorLands (v : CoordinatorView (Away D)) (flown : View D) (flying : OfCoordinator) (new : CoordinatorView D) : Type 0 where
    pub landed : new ≡ landed_coordinator v flown flying.sent
    pub running : v.is_down ≡ false → flown.is_down ≡ false → honest flown.a → honest flown.b → IsRunning state honest new

  pub record ShardLands (v : ShardView (Away D)) (flown : View D) (flying : OfShard) (new : ShardView D) : Type 0 where
    pub landed : new ≡ landed_shard v flown flying.sent
    pub up : v.is_down ≡ false → flown.is_down ≡ false → honest flown.a → honest flown.b → IsUp state honest new

  abbrev pub NodeLands : NodeView (Away D) → View D → Flying → NodeView D → Type 0
  NodeLands (coordinator v) flown (Coordinator flying) (coordinator new) = CoordinatorLands v flown flying new
  NodeLands (shard v) flown (Shard flying) (shard new) = ShardLands v flown flying new
  NodeLands v flown flying new = ⊥
