-- What a disk in memory has after its calls.
use Rattle.std.specs.Prelude.{◌≡◌, ◌≤◌, ℕ, List, [], ◌∷◌, ◌++◌, length, take, replicate}
use Rattle.device.specs.Device.{Leaves, reach, patched}
use Rattle.device.specs.declared.tear.Tear.{Tear}
use Rattle.device.specs.declared.tear.Tear.TheVariants.{Old, New, Fill}
use Rattle.device.specs.declared.call.Call.{Call}
use Rattle.device.specs.declared.call.Call.TheVariants.{Write, Sync, Revive}

-- the content as it reads, the content of the last sync, and the ranges written since (offset and length, oldest first)
pub record Image : Type 0 where
  pub seen : List ℕ
  pub durable : List ℕ
  pub written : List (ℕ × ℕ)

-- all that is there is durable
abbrev pub all_durable : List ℕ → Image
all_durable content = record { seen = content; durable = content; written = [] }

-- one more write
abbrev pub overwritten : ℕ → List ℕ → Image → Image
overwritten at bytes m = record { seen = patched m.seen at bytes; durable = m.durable; written = m.written ++ (at, length bytes) ∷ [] }

-- this byte throughout the ranges
abbrev pub filled : ℕ → List (ℕ × ℕ) → List ℕ → List ℕ
filled byte [] content = content
filled byte (range ∷ ranges) content = filled byte ranges (patched content range.0 (replicate range.1 byte))

-- what is found after a failure
abbrev pub found : Tear → Image → List ℕ
found Old m = m.durable
found New m = m.seen
found (Fill byte) m = filled byte m.written m.seen

abbrev pub after : Call → Image → Image
after (Write at bytes) m = overwritten at bytes.items m
after Sync m = all_durable m.seen
after (Revive tear) m = all_durable (found tear m)

-- the calls one after another
abbrev pub run : Image → List Call → Image
run m [] = m
run m (call ∷ calls) = run (after call m) calls

-- what there is after these calls on a disk with this durable content
abbrev pub replay : List ℕ → List Call → Image
replay first calls = run (all_durable first) calls

-- a stop after these calls may leave this content
abbrev pub CouldLeave : List ℕ → List Call → List ℕ → Type 0
CouldLeave first calls c = Leaves (replay first calls).durable (replay first calls).written c

-- no content that a stop after these calls may leave is longer
abbrev pub NoneLonger : List ℕ → List Call → List ℕ → Type 0
NoneLonger first calls c = reach (replay first calls).written (length (replay first calls).durable) ≤ length c

-- a stop after the first k calls may have left this content, for a k that is at least t
abbrev pub LeftSince : List ℕ → List Call → ℕ → List ℕ → Type 0
LeftSince first calls t c = (k : ℕ) × (t ≤ k) × (k ≤ length calls) × CouldLeave first (take k calls) c

-- one more call was made, and it did this
abbrev pub HasMade : List Call → (Image → Image) → List Call → Type 0
HasMade old step new = (call : Call) × ((m : Image) → after call m ≡ step m) × (new ≡ old ++ call ∷ [])
