-- What a script prints for what it reads.
use Rattle.std.specs.Prelude.{◌≡◌, ◌≤◌, ◌<◌, ◌⊎◌, ℕ, List, [], ◌∷◌, ◌++◌, length, flat_map, All, Option, Result}
use Rattle.std.specs.Global.{Vec}
use Rattle.std.specs.Io.KnownBytes.{Appends, Consumes, IsAtEnd}
use Rattle.tuples.specs.Limits.{max_line}
use Rattle.names.specs.declared.node_name.NodeName.{NodeName}
use Rattle.names.specs.declared.call_name.CallName.{CallName}
use Rattle.cluster.specs.declared.event.What.{What}
use Rattle.cluster.specs.declared.step.Step.{Step}
use Rattle.device.specs.declared.tear.Tear.{Tear}
use Rattle.journal.specs.declared.refused.Bank.{Bank}
use Rattle.line_io.specs.Lines.{HasNoFeed}
use Rattle.line_io.specs.Outputs.{HasBegun}
use Rattle.script_text.specs.PrintedTexts.{refusal_line}
use Rattle.refusal.specs.declared.refusal.Refusal.{Refusal}
use Rattle.refusal.specs.declared.refusal.Refusal.TheVariants.{NoMemory, TooLarge}
use Rattle.scripts.specs.Answering.{Answers}
use Rattle.scripts.specs.Scripts.{ScriptView}
use Rattle.tuples.specs.declared.version.Version.{Version}

-- lines, each with its line feed
abbrev pub joined : List (List ℕ) → List ℕ
joined = flat_map (λ line. line ++ 10 ∷ [])

-- what stands after the last line feed is a line, if there is anything
abbrev pub last_line : List ℕ → List (List ℕ)
last_line [] = []
last_line (b ∷ bs) = (b ∷ bs) ∷ []

module _ {S : Type 0} (takes : S → Step → Option What → S → Type 0) (nexts : S → ℕ → Option CallName → Type 0) (shows : S → ℕ → Result (Vec Version) Refusal → Type 0) (sets : S → NodeName → Bank → ℕ → Tear → S → Type 0) (reshards : S → ℕ → Result (Unit {0}) Refusal → S → S → Type 0) (shards_of : S → ℕ) where
  -- A line within the limit is answered as the script says. A longer one is refused, and so is any for which there is no memory: then nothing is done.
  abbrev pub RepliesTo : List ℕ → ScriptView S → List ℕ → ScriptView S → Type 0
  RepliesTo line a text b = ((length line ≤ max_line) × Answers takes nexts shows sets reshards shards_of line a text b)
      ⊎ (((max_line < length line) × (text ≡ refusal_line TooLarge) × (b ≡ a)) ⊎ ((text ≡ refusal_line NoMemory) × (b ≡ a)))

  -- what these lines print, one after another
  abbrev pub Prints : ScriptView S → List (List ℕ) → List ℕ → ScriptView S → Type 0
  Prints a [] text b = (text ≡ []) × (b ≡ a)
  Prints a (line ∷ lines) text c = (b : ScriptView S) × (first rest : List ℕ) × RepliesTo line a first b × Prints b lines rest c × (text ≡ first ++ rest)

  -- a line is answered, and the answer is written
  pub record Tells (line : List ℕ) (a b : ScriptView S) (before after : Option (List ℕ)) : Type 0 where
    pub text : List ℕ
    pub replies : RepliesTo line a text b
    pub written : Appends before after text

  -- a line is answered, and a beginning of the answer is written
  pub record TellsPart (line : List ℕ) (a b : ScriptView S) (before after : Option (List ℕ)) : Type 0 where
    pub text : List ℕ
    pub replies : RepliesTo line a text b
    pub written : HasBegun before after text

  -- what stands after the last line feed is answered, if there is anything, and the answer is written
  pub record EndsWith (last : List ℕ) (a b : ScriptView S) (before after : Option (List ℕ)) : Type 0 where
    pub text : List ℕ
    pub prints : Prints a (last_line last) text b
    pub written : Appends before after text

  -- or a beginning of it
  pub record EndsPart (last : List ℕ) (a b : ScriptView S) (before after : Option (List ℕ)) : Type 0 where
    pub text : List ℕ
    pub prints : Prints a (last_line last) text b
    pub written : HasBegun before after text

  -- All was read, and what its lines print was written, and nothing else.
  pub record Ran (in_before in_after out_before out_after : Option (List ℕ)) (a b : ScriptView S) : Type 0 where
    pub lines : List (List ℕ)
    pub last : List ℕ
    pub text : List ℕ
    pub read : Consumes in_before in_after (joined lines ++ last)
    pub at_end : IsAtEnd in_after
    pub ended : All HasNoFeed lines
    pub unended : HasNoFeed last
    pub prints : Prints a (lines ++ last_line last) text b
    pub written : Appends out_before out_after text

  -- Lines were read and answered, and a beginning of what they print was written; the last of them ends with the input, if that has ended.
  pub record Broke (in_before in_after out_before out_after : Option (List ℕ)) (a b : ScriptView S) : Type 0 where
    pub lines : List (List ℕ)
    pub rest : List ℕ
    pub answered : List (List ℕ)
    pub text : List ℕ
    pub read : Consumes in_before in_after (joined lines ++ rest)
    pub ended : All HasNoFeed lines
    pub which : (answered ≡ lines) ⊎ (IsAtEnd in_after × HasNoFeed rest × (answered ≡ lines ++ last_line rest))
    pub prints : Prints a answered text b
    pub written : HasBegun out_before out_after text

  -- a run between two lines: these bytes are not taken yet, and nothing waits to be written
  pub record BetweenLines (in_before in_now out_before out_now : Option (List ℕ)) (a now : ScriptView S) (unread : List ℕ) : Type 0 where
    pub lines : List (List ℕ)
    pub text : List ℕ
    pub read : Consumes in_before in_now (joined lines ++ unread)
    pub ended : All HasNoFeed lines
    pub prints : Prints a lines text now
    pub written : Appends out_before out_now text
