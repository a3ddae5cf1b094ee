-- What a session writes for what it reads.
use Rattle.std.specs.Prelude.{◌≡◌, ◌≤◌, ◌<◌, ◌⊎◌, ℕ, List, [], ◌∷◌, ◌++◌, length, flat_map, All, Option, Some, None, Result, Ok, Err}
use Rattle.std.specs.Io.KnownBytes.{Appends, Consumes, IsAtEnd}
use Rattle.std.specs.IoError.{error_kind}
use Rattle.std.specs.declared.io.Error.{Error}
use Rattle.std.specs.declared.io.ErrorKind.TheVariants.{OutOfMemory}
use Rattle.tuples.specs.Limits.{max_line}
use Rattle.refusal.specs.declared.refusal.Refusal.{Refusal}
use Rattle.refusal.specs.declared.refusal.Refusal.TheVariants.{TooLarge}
use Rattle.tuples.specs.declared.request.Request.{Request}
use Rattle.json_lines.specs.Causes.{Cause}
use Rattle.json_lines.specs.Lines.{IsObject, Spells}
use Rattle.json_lines.specs.Shapes.{Field}
use Rattle.json_lines.specs.declared.answer.Answer.{Answer}
use Rattle.json_lines.specs.Texts.{answer_line, refusal_line}
use Rattle.line_io.specs.Lines.{HasNoFeed, unended_refusal}
use Rattle.line_io.specs.Outputs.{HasBegun}

-- an answer of one op, as an answer
abbrev pub told : {T : Type 0} → (T → Answer) → Result T Refusal → Result Answer Refusal
told f (Ok a) = Ok (f a)
told f (Err e) = Err e

-- what answers may give: in this state, to this request, this answer or refusal, and are then in that state
abbrev pub Giving : Type 0 → Type 1
Giving A = A → Request → Result Answer Refusal → A → Type 0

-- the line asks for this, at this store
abbrev pub Asks : ℕ → List ℕ → Request → Type 0
Asks store line r = (length line ≤ max_line) × (fields : List Field) × IsObject line fields × Spells store fields r

-- the line is refused for this cause; memory may run out over any line within the limit
abbrev pub IsRefused : ℕ → List ℕ → Refusal → Type 0
IsRefused store line e = ((max_line < length line) × (e ≡ TooLarge)) ⊎ ((length line ≤ max_line) × Cause store line e)

-- A line is refused and nothing is asked, or its request is asked.
abbrev pub RepliesTo : {A : Type 0} → ℕ → Giving A → A → List ℕ → Result Answer Refusal → A → Type 0
RepliesTo store gives a line reply b = ((e : Refusal) × (reply ≡ Err e) × IsRefused store line e × (b ≡ a)) ⊎ ((r : Request) × Asks store line r × gives a r reply b)

abbrev pub reply_text : ℕ → Result Answer Refusal → List ℕ
reply_text store (Ok answer) = answer_line store answer
reply_text store (Err e) = refusal_line e

abbrev pub reply_line : ℕ → Result Answer Refusal → List ℕ
reply_line store reply = reply_text store reply ++ 10 ∷ []

-- The text for these lines, one answer line for each, in order.
abbrev pub Session : {A : Type 0} → ℕ → Giving A → A → List (List ℕ) → List ℕ → A → Type 0
Session store gives a [] text b = (text ≡ []) × (b ≡ a)
Session {A} store gives a (line ∷ lines) text c =
    (reply : Result Answer Refusal) × (b : A) × (rest : List ℕ) × RepliesTo store gives a line reply b × Session store gives b lines rest c × (text ≡ reply_line store reply ++ rest)

-- lines, each with its line feed
abbrev pub joined : List (List ℕ) → List ℕ
joined = flat_map (λ line. line ++ 10 ∷ [])

-- the text for what stands after the last line feed: nothing for nothing
abbrev pub refused_text : Option Refusal → List ℕ
refused_text None = []
refused_text (Some e) = refusal_line e ++ 10 ∷ []

abbrev pub end_text : List ℕ → List ℕ
end_text last = refused_text (unended_refusal last)

-- All was read, up to the end of input, and its session was written, and nothing else.
pub record Served {A : Type 0} (store : ℕ) (gives : Giving A) (in_before in_after out_before out_after : Option (List ℕ)) (a b : A) : Type 0 where
  pub lines : List (List ℕ)
  pub last : List ℕ
  pub text : List ℕ
  pub read : Consumes in_before in_after (joined lines ++ last)
  pub at_end : IsAtEnd in_after
  pub ended : All HasNoFeed lines
  pub unended : HasNoFeed last
  pub session : Session store gives a lines text b
  pub written : Appends out_before out_after (text ++ end_text last)

-- Lines were read and answered, and a beginning of their session was written; of the end too, if the input has ended.
pub record Broke {A : Type 0} (store : ℕ) (gives : Giving A) (in_before in_after out_before out_after : Option (List ℕ)) (a b : A) : Type 0 where
  pub lines : List (List ℕ)
  pub rest : List ℕ
  pub text : List ℕ
  pub end : List ℕ
  pub read : Consumes in_before in_after (joined lines ++ rest)
  pub ended : All HasNoFeed lines
  pub session : Session store gives a lines text b
  pub of_end : (end ≡ []) ⊎ (IsAtEnd in_after × HasNoFeed rest × (end ≡ end_text rest))
  pub written : HasBegun out_before out_after (text ++ end)

-- why a session could not go on: memory was refused, or a call of a stream that tells such errors told this one
abbrev pub IsCause : (Error → Type 0) → Error → Type 0
IsCause tells e = (error_kind e ≡ OutOfMemory) ⊎ tells e

-- the reader or the writer told it
abbrev pub EitherTells : (Error → Type 0) → (Error → Type 0) → Error → Type 0
EitherTells reads writes e = reads e ⊎ writes e
