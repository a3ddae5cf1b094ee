-- A journal whose devices were lent, and how much of what it has staged flies with them.
use Rattle.std.specs.Prelude.{◌≡◌, ◌≤◌, ◌+◌, ◌||◌, false, List, length, take, drop}
use Rattle.away.specs.declared.away.Away.{Away}
use Rattle.records.specs.declared.record.Record.{Record}
use Rattle.device.specs.Device.{State}
use Rattle.journal.specs.Records.{View, batch_size}
use Rattle.journal.specs.declared.lending.Sent.{Sent}

-- what stands in the device's place has not failed, and has counted what the device had
pub record IsLentDevice {D : Type 0} (state : D → State) (device : D) (away : Away D) : Type 0 where
  pub was : away.was.value ≡ device
  pub up : away.is_stopped ≡ false
  pub failures : away.failures ≡ (state device).failures

-- It has what the journal had, in the place of whose devices others stand.
pub record IsLent {D : Type 0} (state : D → State) (old : View D) (away : View (Away D)) : Type 0 where
  pub a : IsLentDevice state old.a away.a
  pub b : IsLentDevice state old.b away.b
  pub end : away.end ≡ old.end
  pub durable : away.durable ≡ old.durable
  pub staged : away.staged ≡ old.staged
  pub is_down : away.is_down ≡ old.is_down

-- the first of what is staged flies: so many records, in so many bytes
pub record Flies (staged : List Record) (sent : Sent) : Type 0 where
  pub count : sent.count ≤ length staged
  pub len : batch_size (take sent.count staged) ≡ sent.len + 3

-- The devices are back with what they have now. What flew is staged no more, whatever came of it; what was staged since is staged still.
abbrev pub landed : {D : Type 0} → View (Away D) → View D → Sent → View D
landed away flown sent = record flown { staged = drop sent.count away.staged; is_down = away.is_down || flown.is_down }
