-- What a stop may leave of a device, and what its calls do.
use Rattle.std.specs.Prelude.{◌≡◌, ◌⊎◌, ◌<◌, ◌≤◌, ◌+◌, ◌^◌, ◌-◌, ℕ, Bool, true, false, max, List, [], ◌∷◌, ◌++◌, length, take, drop, get_or}

-- the content as it reads, the content of the last sync, the ranges written since (offset and length, oldest
-- first), whether an error has come since the last revive, and how many errors have come in all
pub record State : Type 0 where
  pub seen : List ℕ
  pub durable : List ℕ
  pub written : List (ℕ × ℕ)
  pub stopped : Bool
  pub failures : ℕ

-- the byte lies in no range
abbrev pub Untouched : List (ℕ × ℕ) → ℕ → Type 0
Untouched [] i = Unit {0}
Untouched (range ∷ ranges) i = ((i < range.0) ⊎ (range.0 + range.1 ≤ i)) × Untouched ranges i

-- the greatest length that the writes ask for, at least n
abbrev pub reach : List (ℕ × ℕ) → ℕ → ℕ
reach [] n = n
reach (range ∷ ranges) n = max (range.0 + range.1) (reach ranges n)

-- a stop may leave this content
pub record Leaves (durable : List ℕ) (written : List (ℕ × ℕ)) (content : List ℕ) : Type 0 where
  pub no_shorter : length durable ≤ length content
  pub no_longer : length content ≤ reach written (length durable)
  pub same : (i : ℕ) → i < length durable → Untouched written i → get_or content i 0 ≡ get_or durable i 0

abbrev pub left : State → List ℕ → Type 0
left s content = Leaves s.durable s.written content

-- old with these bytes at this offset
abbrev pub patched : List ℕ → ℕ → List ℕ → List ℕ
patched old at bytes = take at old ++ bytes ++ drop (at + length bytes) old

-- a write that was done
pub record Wrote (old : State) (at : ℕ) (bytes : List ℕ) (new : State) : Type 0 where
  pub seen : new.seen ≡ patched old.seen at bytes
  pub durable : new.durable ≡ old.durable
  pub written : new.written ≡ old.written ++ (at, length bytes) ∷ []
  pub stopped : new.stopped ≡ false

-- a write that failed, in part or before it began
pub record Tore (old : State) (at n : ℕ) (new : State) : Type 0 where
  pub durable : new.durable ≡ old.durable
  pub written : (new.written ≡ old.written) ⊎ (new.written ≡ old.written ++ (at, n) ∷ [])

pub record Synced (old new : State) : Type 0 where
  pub seen : new.seen ≡ old.seen
  pub durable : new.durable ≡ old.seen
  pub written : new.written ≡ []
  pub stopped : new.stopped ≡ false

-- what is stored is as before
pub record Keeps (old new : State) : Type 0 where
  pub seen : new.seen ≡ old.seen
  pub durable : new.durable ≡ old.durable
  pub written : new.written ≡ old.written

-- it reads as one of the contents that a stop may have left, and that is durable
pub record Revived (old new : State) : Type 0 where
  pub found : left old new.seen
  pub durable : new.durable ≡ new.seen
  pub written : new.written ≡ []
  pub stopped : new.stopped ≡ false

-- an error has a cause
abbrev pub HasFailed : State → State → Type 0
HasFailed old new = (old.failures < new.failures) ⊎ (new.failures ≡ 2 ^ 64 - 1)

pub record Failed (old new : State) : Type 0 where
  pub cause : HasFailed old new
  pub stopped : new.stopped ≡ true

-- Time passes: a stop since t may have left what it could before, or what it may leave now.
pub record Elapses (before now : ℕ) (past since : ℕ → List ℕ → Type 0) (leaves : List ℕ → Type 0) : Type 0 where
  pub later : before ≤ now
  pub nothing_else : (t : ℕ) (c : List ℕ) → t ≤ before → since t c → past t c ⊎ leaves c
  pub keeps : (t : ℕ) (c : List ℕ) → t ≤ before → past t c → since t c

-- what a stop at any moment since old leaves has P
pub record LeavesOnly {D : Type 0} (moment : D → ℕ) (left_since : D → ℕ → List ℕ → Type 0) (old new : D) (P : List ℕ → Type 0) : Type 0 where
  pub later : moment old ≤ moment new
  pub each : (c : List ℕ) → left_since new (moment old) c → P c
  -- for a run that began earlier
  pub before : (t : ℕ) (c : List ℕ) → t ≤ moment old → left_since new t c → left_since old t c ⊎ P c
