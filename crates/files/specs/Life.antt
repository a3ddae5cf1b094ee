-- What a life of a device over a file has done, and what a stop may leave of it.
use Rattle.std.specs.Prelude.{◌+◌, ◌≤◌, ◌==◌, ℕ, Bool, true, false, List, [], ◌∷◌, length, drop, slice_index}
use Rattle.device.specs.Device.{State, Leaves, reach}
use Rattle.device.specs.Sim.{Image, all_durable, overwritten}

-- what was done (0 opened, 1 written, 2 synced), the offset, and the bytes
abbrev pub Event : Type 0
Event = ℕ × ℕ × List ℕ

abbrev pub event_of : List ℕ → List ℕ → Event
event_of numbers bytes = (slice_index numbers 0, slice_index numbers 1, bytes)

abbrev pub opened : List ℕ → Event
opened content = (0, 0, content)

abbrev pub written : ℕ → List ℕ → Event
written at bytes = (1, at, bytes)

abbrev pub synced : Event
synced = (2, 0, [])

abbrev pub done : Bool → Bool → ℕ → List ℕ → Image → Image
done true wrote at bytes m = all_durable bytes
done false true at bytes m = overwritten at bytes m
done false false at bytes m = all_durable m.seen

abbrev pub after : Event → Image → Image
after e m = done (e.0 == 0) (e.0 == 1) e.1 e.2 m

-- what there is after these events, the newest first
abbrev pub image : List Event → Image
image [] = all_durable []
image (e ∷ events) = after e (image events)

abbrev pub life_state : List Event → Bool → ℕ → State
life_state events stopped failures = record {
  seen = (image events).seen;
  durable = (image events).durable;
  written = (image events).written;
  stopped = stopped;
  failures = failures;
}

-- a stop after these events may leave this content
abbrev pub CouldLeave : List Event → List ℕ → Type 0
CouldLeave events c = Leaves (image events).durable (image events).written c

-- no content that it may leave is longer than what reads
abbrev pub NoneLonger : List Event → Type 0
NoneLonger events = reach (image events).written (length (image events).durable) ≤ length (image events).seen

-- a stop may have left it at some moment from t on, as of all but the newest k events
abbrev pub LeftSince : List Event → ℕ → List ℕ → Type 0
LeftSince events t c = (k : ℕ) × (k + t ≤ length events) × CouldLeave (drop k events) c
