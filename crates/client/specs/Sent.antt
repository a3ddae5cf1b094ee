-- What is sent of a request, and which answers are read for it.
use Rattle.std.specs.Prelude.{◌≡◌, ◌≤◌, ◌⊎◌, ℕ, suc, zero, List, [], ◌∷◌, ◌++◌, length, flat_map, All, Option, MatchOption, string_bytes}
use Rattle.refusal.specs.Refusals.{IsOneOf}
use Rattle.std.specs.Io.KnownBytes.{Appends, Consumes}
use Rattle.line_io.specs.Outputs.{HasBegun}
use Rattle.refusal.specs.declared.refusal.Refusal.{Refusal}
use Rattle.refusal.specs.declared.refusal.Refusal.TheVariants.{Aborted, Busy, Full, NoMemory}
use Rattle.client.specs.declared.answer.Answered.{Answered}
use Rattle.client.specs.declared.kind.Kind.{Kind}
use Rattle.client.specs.declared.kind.Kind.TheVariants.{Check}
use Rattle.client.specs.Answers.{IsAnswer}

-- the line and its line feed, so many times
abbrev pub times : ℕ → List ℕ → List ℕ
times zero line = []
times (suc n) line = times n line ++ (line ++ 10 ∷ [])

-- After it nothing was done, and what was in the way passes by itself. The usersets of a check are as many again.
abbrev pub IsSentAgain : Kind → Refusal → Type 0
IsSentAgain kind r = IsOneOf r (Busy ∷ Aborted ∷ NoMemory ∷ []) ⊎ ((r ≡ Full) × (kind ≡ Check → ⊥))

-- a request that is answered so may be sent again
abbrev pub IsAskedAgain : Kind → Option Refusal → Type 0
IsAskedAgain kind refusal = MatchOption refusal ⊥ (IsSentAgain kind)

-- the bytes of an answer, and of some, one after the other
abbrev pub answer_bytes : Answered → List ℕ
answer_bytes a = string_bytes a.line ++ 10 ∷ []

abbrev pub answers_bytes : List Answered → List ℕ
answers_bytes = flat_map answer_bytes

-- an answer after which the request may be sent again
pub record IsPassing (kind : Kind) (a : Answered) : Type 0 where
  pub answer : IsAnswer kind a
  pub again : IsAskedAgain kind a.refusal

-- The line was sent once, and once more after each earlier answer, of which there are at most so many: each was one after which it may be sent again. These
-- answers were read, and then this last one: there were as many as there may be, or it is none after which it may be sent again. Nothing else was read or sent.
pub record SendsAgain (most : ℕ) (kind : Kind) (line : List ℕ) (in_before in_after out_before out_after : Option (List ℕ)) (last : Answered) : Type 0 where
  pub earlier : List Answered
  pub few : length earlier ≤ most
  pub each : All (IsPassing kind) earlier
  pub answer : IsAnswer kind last
  pub ends : (length earlier ≡ most) ⊎ (IsAskedAgain kind last.refusal → ⊥)
  pub read : Consumes in_before in_after (answers_bytes earlier ++ answer_bytes last)
  pub sent : Appends out_before out_after (times (suc (length earlier)) line)

-- The line was sent once after each earlier answer, as it may be, and then a beginning of it once more at most; no answer to that was read.
pub record StopsAsking (most : ℕ) (kind : Kind) (line : List ℕ) (in_before out_before out_after : Option (List ℕ)) : Type 0 where
  pub earlier : List Answered
  pub few : length earlier ≤ most
  pub each : All (IsPassing kind) earlier
  pub in_now : Option (List ℕ)
  pub read : Consumes in_before in_now (answers_bytes earlier)
  pub out_now : Option (List ℕ)
  pub sent : Appends out_before out_now (times (length earlier) line)
  pub begun : HasBegun out_now out_after (line ++ 10 ∷ [])
