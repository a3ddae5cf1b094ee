-- How long a slow client may keep others waiting.
use Rattle.std.specs.Prelude.{◌≡◌, ◌≢◌, ◌≤◌, ◌<◌, ◌-◌, ◌+◌, ◌/◌, ℕ, List, Contains, length, slice_get, Option, Some, None}
use Rattle.std.specs.Time.{instant_nanos}
use Rattle.std.specs.declared.time.Instant.{Instant}

-- the seconds that it may
abbrev pub slowest_seconds : ℕ
slowest_seconds = 30

-- what began at an instant has lasted for as long as it may; what has not begun has not
abbrev pub HasLasted : Option Instant → Instant → Type 0
HasLasted None now = ⊥
HasLasted (Some since) now = slowest_seconds ≤ (instant_nanos now - instant_nanos since) / 1_000_000_000

-- the bytes end with a line feed
abbrev pub EndsLine : List ℕ → Type 0
EndsLine part = slice_get part (length part - 1) ≡ Some 10

-- Bytes were read: if they end with a line feed, no line has begun since; if none is among them, a line that had begun goes on.
pub record GoesOn (part : List ℕ) (old new : Option Instant) : Type 0 where
  pub ended : EndsLine part → new ≡ None
  pub lasts : (since : Instant) → (Contains part 10 → ⊥) → old ≡ Some since → new ≡ Some since

-- a client that takes so many bytes is given the time anew
abbrev pub enough : ℕ
enough = 16_384

-- Of the bytes that were to be taken so many were. If that is all, it is no more waited. Else a time that runs goes on, and these count in it, until they
-- are enough: then a time runs of which none are counted, as at first, if what was taken before the time began does not count.
pub record IsTaken (count wanted : ℕ) (since : Option Instant) (taken : ℕ) (since_now : Option Instant) (taken_now : ℕ) : Type 0 where
  pub all : count ≡ wanted → (since_now ≡ None) × (taken_now ≡ 0)
  pub much : (began : Instant) → count ≢ wanted → since ≡ Some began → enough ≤ taken + count → (since_now ≢ None) × (taken_now ≡ 0)
  pub lasts : (began : Instant) → count ≢ wanted → since ≡ Some began → taken + count < enough → (since_now ≡ Some began) × (taken_now ≡ taken + count)
  pub begins : since ≡ None → taken_now ≤ count
