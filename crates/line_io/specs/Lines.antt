-- A line while it is read.
use Rattle.std.specs.Prelude.{◌≡◌, ◌≢◌, ◌≤◌, ◌<◌, ◌-◌, ◌^◌, ◌⊎◌, ℕ, false, min, List, [], ◌∷◌, length, All, Option, Some, None, nat_lt, if◌then◌else◌}
use Rattle.tuples.specs.Limits.{max_line}
use Rattle.refusal.specs.declared.refusal.Refusal.{Refusal}
use Rattle.refusal.specs.declared.refusal.Refusal.TheVariants.{BadRequest, TooLarge, NoMemory}
use Rattle.line_io.specs.declared.line.Line.{Line}

abbrev pub HasNoFeed : List ℕ → Type 0
HasNoFeed = All (λ b. b ≢ 10)

-- these are its bytes so far; they are kept if they are within the limit and memory was not refused
pub record Holds (line : Line) (front : List ℕ) : Type 0 where
  pub counted : line.len ≡ min (length front) (2 ^ 64 - 1)
  pub kept : line.is_refused ≡ false → length front ≤ max_line → line.bytes.items ≡ front

abbrev pub IsWhole : Line → List ℕ → Type 0
IsWhole line front = (length front ≤ max_line) × (line.bytes.items ≡ front)

-- why a line is not read: its length, or memory
abbrev pub IsUnheld : List ℕ → Refusal → Type 0
IsUnheld front e = ((max_line < length front) × (e ≡ TooLarge)) ⊎ ((length front ≤ max_line) × (e ≡ NoMemory))

-- why the bytes after the last line feed are refused, if there are any
abbrev pub unended_refusal : List ℕ → Option Refusal
unended_refusal [] = None
unended_refusal (b ∷ bs) = Some (if nat_lt max_line (length (b ∷ bs)) then TooLarge else BadRequest)
