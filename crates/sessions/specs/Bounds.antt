-- How much waits to be written.
use Rattle.std.specs.Prelude.{◌≡◌, ◌<◌, ◌⊎◌, ℕ, List, [], ◌++◌, length, Result}
use Rattle.refusal.specs.declared.refusal.Refusal.{Refusal}
use Rattle.json_lines.specs.declared.answer.Answer.{Answer}
use Rattle.sessions.specs.Sessions.{reply_line}

-- less than a block, and one answer at most
abbrev pub IsBounded : ℕ → List ℕ → Type 0
IsBounded store waiting =
    (front : List ℕ) × (last : List ℕ) × (waiting ≡ front ++ last) × (length front < 16_384) × ((last ≡ []) ⊎ ((reply : Result Answer Refusal) × (last ≡ reply_line store reply)))
