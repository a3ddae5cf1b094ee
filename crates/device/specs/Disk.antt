-- A disk in memory, as its callers see it.
use Rattle.std.specs.Prelude.{◌≡◌, ◌+◌, ◌-◌, ◌^◌, List, ℕ, [], length, min, Bool, true, false, is_some, Option, Some, None, Result, IsErr, OnErr}
use Rattle.device.specs.Device.{State}
use Rattle.device.specs.Faults.{IsDue, IsLater, nearer}
use Rattle.device.specs.Sim.{Image, LeftSince, overwritten, replay}
use Rattle.device.specs.declared.tear.Tear.{Tear}
use Rattle.device.specs.declared.tear.Tear.TheVariants.{Old}
use Rattle.device.specs.declared.sim_disk.SimDisk.{SimDisk}

-- what it has after the calls so far
abbrev pub image_of : SimDisk → Image
image_of d = replay d.first.items d.history.items

abbrev pub state_of : SimDisk → State
state_of d = record {
  seen = d.seen.items;
  durable = (replay d.first.items d.history.items).durable;
  written = (replay d.first.items d.history.items).written;
  stopped = is_some d.faults.tear;
  failures = d.faults.failures;
}

-- its moment is the number of the calls that changed what a stop may leave
abbrev pub moment_of : SimDisk → ℕ
moment_of d = length d.history.items

abbrev pub left_since_of : SimDisk → ℕ → List ℕ → Type 0
left_since_of d t c = LeftSince d.first.items d.history.items t c

-- how many calls a script would have counted
abbrev pub calls_of : SimDisk → ℕ
calls_of d = d.faults.calls

-- how many calls from now (from 1) one fails, and what is found then
abbrev pub script_of : SimDisk → Option (ℕ × Tear)
script_of d = d.faults.script

-- what is found after the current failure; none if it has not failed
abbrev pub tear_of : SimDisk → Option Tear
tear_of d = d.faults.tear

-- It will fail at the n-th call from now on, and that is found then.
abbrev pub is_set_to_fail : SimDisk → ℕ → Tear → Type 0
is_set_to_fail d n tear = script_of d ≡ Some (n, tear)

-- A call of `len`, `read_at`, `write_at` or `sync`: it is counted, and fails if the script names it. That script is then
-- spent; another comes one call nearer. A script waits while the device is stopped.
pub record FollowsScript {T E : Type 0} (old new : SimDisk) (result : Result T E) : Type 0 where
  pub counted : calls_of new ≡ min (calls_of old + 1) (2 ^ 64 - 1)
  pub strikes : (tear : Tear) → tear_of old ≡ None → IsDue (script_of old) tear → IsErr result × (script_of new ≡ None) × (tear_of new ≡ Some tear)
  pub waits : tear_of old ≡ None → IsLater (script_of old) → (script_of new ≡ nearer (script_of old)) × OnErr result (tear_of new ≡ Some Old)
  pub down : (tear : Tear) → tear_of old ≡ Some tear → (script_of new ≡ script_of old) × (tear_of new ≡ Some tear)

-- there was no memory to keep the last write, if any
abbrev pub has_lost_of : SimDisk → Bool
has_lost_of d = d.faults.is_lost

-- A write that the script strikes: what is found then is found as if the write had been done; or, if there was no memory to keep it, as if it had
-- never been made.
pub record IsStruck (old : SimDisk) (at : ℕ) (bytes : List ℕ) (new : SimDisk) : Type 0 where
  pub kept : has_lost_of new ≡ false → image_of new ≡ overwritten at bytes (image_of old)
  pub lost : has_lost_of new ≡ true → image_of new ≡ image_of old

-- it has this content, all of it durable, and no call has failed
pub record IsFresh (content : List ℕ) (s : State) : Type 0 where
  pub seen : s.seen ≡ content
  pub durable : s.durable ≡ content
  pub written : s.written ≡ []
  pub stopped : s.stopped ≡ false
  pub failures : s.failures ≡ 0
