-- A coordinator whose devices were lent, what of it flies with them, and what it is once they are back.
use Rattle.std.specs.Prelude.{◌≡◌, ◌||◌, ◌++◌, ℕ, List, None, drop, length, take}
use Rattle.away.specs.Aways.{lent_honest}
use Rattle.away.specs.declared.away.Away.{Away}
use Rattle.records.specs.declared.record.Record.{Record}
use Rattle.device.specs.Device.{State}
use Rattle.journal.specs.Lending.{IsLentDevice}
use Rattle.journal.specs.Records.{HasRecords, View}
use Rattle.journal.specs.declared.lending.Sent.{Sent}
use Rattle.decisions.specs.Coordinators.{CoordinatorView}
use Rattle.coordinator.specs.Staged.{decided, last_horizon}
use Rattle.coordinator.specs.declared.lending.Flying.{Flying}

-- It has all that the coordinator had, in the place of whose devices others stand.
pub record IsLentCoordinator {D : Type 0} (state : D → State) (old : CoordinatorView D) (away : CoordinatorView (Away D)) : Type 0 where
  pub a : IsLentDevice state old.a away.a
  pub b : IsLentDevice state old.b away.b
  pub end : away.end ≡ old.end
  pub durable : away.durable ≡ old.durable
  pub staged : away.staged ≡ old.staged
  pub is_down : away.is_down ≡ old.is_down
  pub me : away.me ≡ old.me
  pub open_ids : away.open_ids ≡ old.open_ids
  pub given : away.given ≡ old.given

-- so many decisions are among the records that fly, and this is the last horizon among them
pub record IsToldOf (records : List Record) (flying : Flying) : Type 0 where
  pub decisions : flying.decisions ≡ length (decided records)
  pub rising : flying.rising ≡ last_horizon None records

-- The flight was of the devices that this coordinator stands without, and has made the first of what it has staged durable: each stop leaves that.
pub record HasFlown {D : Type 0} (state : D → State) (honest : D → Type 0) (v : CoordinatorView (Away D)) (flown : View D) (count : ℕ) : Type 0 where
  pub honest_a : lent_honest honest v.a
  pub honest_b : lent_honest honest v.b
  pub durable : flown.durable ≡ v.durable ++ take count v.staged
  pub rest : HasRecords (state flown.a) (state flown.b) flown.durable

-- The devices are back with what they have now. What flew is staged no more, whatever came of it; all else is as it was.
abbrev pub landed_coordinator : {D : Type 0} → CoordinatorView (Away D) → View D → Sent → CoordinatorView D
landed_coordinator v flown sent = record {
  a = flown.a;
  b = flown.b;
  end = flown.end;
  durable = flown.durable;
  staged = drop sent.count v.staged;
  is_down = v.is_down || flown.is_down;
  me = v.me;
  open_ids = v.open_ids;
  given = v.given;
}
