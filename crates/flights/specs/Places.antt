-- A node under its lock, whether its devices are here or out; and a shard there, as its callers see it.
use Rattle.std.specs.Prelude.{◌≡◌, ℕ, List, Option, Some, None, Ok}
use Rattle.away.specs.Aways.{lent_honest, lent_state}
use Rattle.away.specs.declared.away.Away.{Away}
use Rattle.tuples.specs.declared.entry.Entry.{Entry}
use Rattle.records.specs.Replays.{Identity}
use Rattle.published.specs.Known.{Known}
use Rattle.device.specs.Device.{State}
use Rattle.calls.specs.declared.call.ShardCall.{ShardCall}
use Rattle.calls.specs.declared.call.ShardCall.TheVariants.{Checkpoint}
use Rattle.calls.specs.declared.reply.Reply.{Reply}
use Rattle.calls.specs.declared.reply.Reply.TheVariants.{Shard as from_shard}
use Rattle.calls.specs.declared.reply.ShardReply.TheVariants as told_by
use Rattle.laws.specs.Worlds.{shard_node}
use Rattle.sides.specs.Lending.{IsSoundIn, IsUpIn, LandsIn, LendsIn}
use Rattle.sides.specs.Reopening.{OpenedIn, RestartedIn}
use Rattle.sides.specs.Sides.{Side, SideAnswers, bank_len_in}
use Rattle.flights.specs.Flights.{FlightView, IsOutOn}
use Rattle.flights.specs.declared.berth.Berth.{Berth}
use Rattle.flights.specs.declared.berth.Berth.TheVariants.{Here, Out}
use Rattle.sides.specs.declared.launch.Launch.{Launch}
use Rattle.flights.specs.declared.returning.Restart.{Restart}
use Rattle.flights.specs.declared.returning.Restart.TheVariants.{HasToWait, IsRefused, IsUp}

-- What lies under the lock of a node: it with its devices; or without them, and the number of the flight that has them. It is always one or the other, but within
-- a call.
pub data Whereabouts (H O : Type 0) : Type 0 where
  here : H → Whereabouts H O
  out : O → ℕ → Whereabouts H O
  nowhere : Whereabouts H O

abbrev pub place_of : {H O : Type 0} → Option (Berth H O) → Whereabouts H O
place_of (Some (Here side room)) = here side
place_of (Some (Out side launch)) = out side launch
place_of None = nowhere

-- its devices are out
abbrev pub IsOutThere : {H O : Type 0} → Whereabouts H O → Type 0
IsOutThere (here side) = ⊥
IsOutThere (out side number) = Unit {0}
IsOutThere nowhere = ⊥

-- its devices are out on this flight
abbrev pub IsOutFor : {H O : Type 0} → ℕ → Whereabouts H O → Type 0
IsOutFor launch (here side) = ⊥
IsOutFor launch (out side number) = number ≡ launch
IsOutFor launch nowhere = ⊥

-- a shard
abbrev pub PlaceView : Type 0 → Type 0
PlaceView D = Whereabouts (Side D) (Side (Away D))

-- its number among the shards
abbrev pub number_at : {D : Type 0} → PlaceView D → ℕ
number_at (here side) = side.number
number_at (out side launch) = side.number
number_at nowhere = 0

-- it has its devices, and is up
abbrev pub IsUpHere : {D : Type 0} → PlaceView D → Type 0
IsUpHere (here side) = IsUpIn side.node
IsUpHere (out side launch) = ⊥
IsUpHere nowhere = ⊥

-- how many bytes its current bank has
abbrev pub bank_len_at : {D : Type 0} → PlaceView D → ℕ
bank_len_at (here side) = bank_len_in side.node
bank_len_at (out side launch) = bank_len_in side.node
bank_len_at nowhere = 0

-- that a flush went well is told of a shard that is up, or whose devices are out
abbrev pub TellsUp : {D : Type 0} → PlaceView D → Reply → Type 0
TellsUp (here side) (from_shard (told_by.Flush (Ok done))) = IsUpIn side.node
TellsUp place reply = Unit {0}

module _ {D : Type 0} (state : D → State) (honest : D → Type 0) where
  -- the shard is there, and its honest devices have its records, or those that left have them
  abbrev pub IsBerthed : Type 0 → ℕ → List Launch → Option (Berth (Side D) (Side (Away D))) → Type 0
  IsBerthed rests shards launches (Some (Here side room)) = IsSoundIn state honest side.node
  IsBerthed rests shards launches (Some (Out side launch)) = IsOutOn state honest rests shards launches side launch
  IsBerthed rests shards launches None = ⊥

  -- Its devices have left, with all that was staged; the shard is still tied to what its pass has seen.
  abbrev pub HasLaunched : PlaceView D → FlightView D → PlaceView D → Type 0
  HasLaunched (here old) flight (out new launch) = LendsIn state honest old.node new.node flight.journal flight.flying × (new.number ≡ old.number) × (new.pass ≡ old.pass) × (launch ≡ flight.launch)
  HasLaunched old flight new = ⊥

  -- Its devices are back from this flight: what flew is staged no more, what was staged since is staged still, and it is up if both were.
  abbrev pub HasLanded : PlaceView D → FlightView D → PlaceView D → Type 0
  HasLanded (out old launch) flown (here new) = LandsIn state honest old.node flown.journal flown.flying new.node × (new.number ≡ old.number) × (new.pass ≡ old.pass) × (launch ≡ flown.launch)
  HasLanded old flown new = ⊥

  module _ (moment : D → ℕ) (left_since : D → ℕ → List ℕ → Type 0) where
    -- the shard has answered the call, over its devices or over what stands in their place
    abbrev pub PlaceAnswers : PlaceView D → ShardCall → Reply → PlaceView D → Type 0
    PlaceAnswers (here old) call reply (here new) = SideAnswers state honest moment left_since old call reply new
    PlaceAnswers (out old launch) call reply (out new number) =
        SideAnswers (lent_state state) (lent_honest honest) (λ d. moment d.was.value) (λ d t c. left_since d.was.value t c) old call reply new × (number ≡ launch)
    PlaceAnswers old call reply new = ⊥

    -- it has its devices, and has answered to a checkpoint; what its pass has seen is as it was
    abbrev pub ChecksPointThere : PlaceView D → Reply → PlaceView D → Type 0
    ChecksPointThere (here old) reply (here new) = SideAnswers state honest moment left_since old Checkpoint reply new × (new.pass ≡ old.pass)
    ChecksPointThere old reply new = ⊥

    -- it was opened over two devices, which are here
    abbrev pub HasOpened : Identity → D → D → Known Entry → PlaceView D → Type 0
    HasOpened me a b pass (here side) = OpenedIn state honest moment left_since me a b side.node × (side.number ≡ me.node) × (side.pass ≡ pass)
    HasOpened me a b pass place = ⊥

    -- it was opened again, and what its pass has seen is as it was; or its devices are out
    abbrev pub HasRestarted : ℕ → ℕ → PlaceView D → Restart → PlaceView D → Type 0
    HasRestarted store shards (here old) IsUp (here new) = RestartedIn state honest moment left_since (shard_node store shards old.number) old.node None new.node × (new.number ≡ old.number) × (new.pass ≡ old.pass)
    HasRestarted store shards (here old) (IsRefused e) (here new) = RestartedIn state honest moment left_since (shard_node store shards old.number) old.node (Some e) new.node × (new.number ≡ old.number) × (new.pass ≡ old.pass)
    HasRestarted store shards (out old launch) HasToWait new = new ≡ out old launch
    HasRestarted store shards old restart new = ⊥
