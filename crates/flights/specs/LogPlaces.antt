-- The coordinator under its lock, as its callers see it, whether its devices are here or out.
use Rattle.std.specs.Prelude.{◌≡◌, ◌≤◌, ◌<◌, ◌+◌, ◌^◌, ℕ, List, [], length, Option, Some, None}
use Rattle.away.specs.declared.away.Away.{Away}
use Rattle.away.specs.Aways.{lent_honest, lent_state}
use Rattle.tuples.specs.declared.entry.Entry.{Entry}
use Rattle.tuples.specs.Writes.{WriteValue}
use Rattle.device.specs.Device.{State}
use Rattle.calls.specs.declared.call.NodeCall.{NodeCall}
use Rattle.calls.specs.declared.call.CoordinatorCall.{CoordinatorCall}
use Rattle.calls.specs.declared.call.CoordinatorCall.TheVariants.{Checkpoint}
use Rattle.calls.specs.declared.reply.Reply.{Reply}
use Rattle.flow_ties.specs.Writes.{TellsWriter}
use Rattle.laws.specs.Worlds.{coordinator_node}
use Rattle.ties.specs.Ties.{Attempt}
use Rattle.sides.specs.CoordinatorSides.{CoordinatorSideAnswers, HasLaterList, HasSameList, IsTried, LogSide}
use Rattle.sides.specs.Lending.{FlushTellsUp, IsUpThere, LandsIn, LendsIn}
use Rattle.sides.specs.Reopening.{LogRestartedIn}
use Rattle.sides.specs.Sides.{bank_len_in}
use Rattle.flights.specs.Flights.{FlightView, IsLogOutOn}
use Rattle.flights.specs.Places.{Whereabouts, here, nowhere, out}
use Rattle.flights.specs.declared.berth.Berth.{Berth}
use Rattle.flights.specs.declared.berth.Berth.TheVariants.{Here, Out}
use Rattle.sides.specs.declared.launch.Launch.{Launch}
use Rattle.flights.specs.declared.returning.Restart.{Restart}
use Rattle.flights.specs.declared.returning.Restart.TheVariants.{HasToWait, IsRefused, IsUp}

abbrev pub LogPlaceView : Type 0 → Type 0
LogPlaceView D = Whereabouts (LogSide D) (LogSide (Away D))

-- it has its devices, and is up
abbrev pub IsLogUpHere : {D : Type 0} → LogPlaceView D → Type 0
IsLogUpHere (here side) = IsUpThere side.node
IsLogUpHere (out side launch) = ⊥
IsLogUpHere nowhere = ⊥

-- how many bytes its current bank has
abbrev pub log_bank_len_at : {D : Type 0} → LogPlaceView D → ℕ
log_bank_len_at (here side) = bank_len_in side.node
log_bank_len_at (out side launch) = bank_len_in side.node
log_bank_len_at nowhere = 0

-- all decisions that were once staged
abbrev pub tried_at : {D : Type 0} → LogPlaceView D → List Attempt
tried_at (here side) = side.tried
tried_at (out side launch) = side.tried
tried_at nowhere = []

-- it can be counted if one decision more is staged
abbrev pub HasCount : List Attempt → Type 0
HasCount tried = length tried + 1 < 2 ^ 64

-- that a flush went well is told of a coordinator that is up, or whose devices are out
abbrev pub LogTellsUp : {D : Type 0} → LogPlaceView D → Reply → Type 0
LogTellsUp (here side) reply = FlushTellsUp side.node reply
LogTellsUp place reply = Unit {0}

-- What a reply tells a writer, by the decisions that it then knows: to each that had seen so much of the list, whatever write it asked for.
abbrev pub TellsWriters : List Entry → List Attempt → List Entry → NodeCall → Reply → Type 0
TellsWriters before tried seen call reply = (asked : WriteValue) (above : ℕ) → above ≤ length before → TellsWriter (IsTried tried) asked above seen call reply

-- the coordinator is there; if its devices are out, it stays as they left it, and may have staged more
abbrev pub IsLogBerthed : {D : Type 0} → List Launch → Option (Berth (LogSide D) (LogSide (Away D))) → Type 0
IsLogBerthed launches (Some (Here side room)) = Unit {0}
IsLogBerthed launches (Some (Out side launch)) = IsLogOutOn launches side launch
IsLogBerthed launches None = ⊥

module _ {D : Type 0} (state : D → State) (honest : D → Type 0) where
  -- Its devices have left, with all that was staged; the list is as it was.
  abbrev pub HasLogLaunched : LogPlaceView D → FlightView D → LogPlaceView D → Type 0
  HasLogLaunched (here old) flight (out new launch) = LendsIn state honest old.node new.node flight.journal flight.flying × HasSameList old new × (launch ≡ flight.launch)
  HasLogLaunched old flight new = ⊥

  -- Its devices are back from this flight: what flew is staged no more, what was staged since is staged still, and it is up if both were. What is durable then
  -- has joined the list.
  abbrev pub HasLogLanded : LogPlaceView D → FlightView D → LogPlaceView D → Type 0
  HasLogLanded (out old launch) flown (here new) = LandsIn state honest old.node flown.journal flown.flying new.node × HasLaterList old new × (launch ≡ flown.launch)
  HasLogLanded old flown new = ⊥

  module _ (moment : D → ℕ) (left_since : D → ℕ → List ℕ → Type 0) where
    -- the coordinator has answered the call, over its devices or over what stands in their place
    abbrev pub LogPlaceAnswers : LogPlaceView D → CoordinatorCall → Reply → LogPlaceView D → Type 0
    LogPlaceAnswers (here old) call reply (here new) = CoordinatorSideAnswers state honest moment left_since old call reply new
    LogPlaceAnswers (out old launch) call reply (out new number) =
        CoordinatorSideAnswers (lent_state state) (lent_honest honest) (λ d. moment d.was.value) (λ d t c. left_since d.was.value t c) old call reply new × (number ≡ launch)
    LogPlaceAnswers old call reply new = ⊥

    -- it has its devices, and has answered to a checkpoint; what was staged has joined the list
    abbrev pub ChecksLogPointThere : LogPlaceView D → Reply → LogPlaceView D → Type 0
    ChecksLogPointThere (here old) reply (here new) = CoordinatorSideAnswers state honest moment left_since old Checkpoint reply new × HasLaterList old new
    ChecksLogPointThere old reply new = ⊥

    -- it was opened again, and what it found has joined the list; or its devices are out
    abbrev pub HasLogRestarted : ℕ → ℕ → LogPlaceView D → Restart → LogPlaceView D → Type 0
    HasLogRestarted store shards (here old) IsUp (here new) = LogRestartedIn state honest moment left_since (coordinator_node store shards) old.node None new.node × HasLaterList old new
    HasLogRestarted store shards (here old) (IsRefused e) (here new) = LogRestartedIn state honest moment left_since (coordinator_node store shards) old.node (Some e) new.node × HasLaterList old new
    HasLogRestarted store shards (out old launch) HasToWait new = new ≡ out old launch
    HasLogRestarted store shards old restart new = ⊥
