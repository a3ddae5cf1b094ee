-- Texts that are cut at a mark, and what a parser answers.
use Rattle.std.specs.Prelude.{◌≡◌, ◌⊎◌, ℕ, Bool, false, ◌==◌, List, ◌∷◌, ◌++◌, Result, Ok, Err}
use Rattle.std.specs.List.{list_any}
use Rattle.refusal.specs.declared.refusal.Refusal.{Refusal}
use Rattle.refusal.specs.declared.refusal.Refusal.TheVariants.{BadTuple, NoMemory}

abbrev pub has_byte : ℕ → List ℕ → Bool
has_byte mark = list_any (λ b. b == mark)

abbrev pub Lacks : ℕ → List ℕ → Type 0
Lacks mark text = has_byte mark text ≡ false

-- the text is cut around its first such byte
pub record IsCut (mark : ℕ) (text front back : List ℕ) : Type 0 where
  pub first : Lacks mark front
  pub whole : text ≡ front ++ mark ∷ back

-- no value of the grammar has this text
abbrev pub SpellsNone : {A : Type 0} → (A → Type 0) → (A → List ℕ) → List ℕ → Type 0
SpellsNone {A} IsValid text_of text = (a : A) → IsValid a → text ≡ text_of a → ⊥

-- why there is no value: no text of the grammar, or no memory
abbrev pub Refuses : {A : Type 0} → (A → Type 0) → (A → List ℕ) → List ℕ → Refusal → Type 0
Refuses IsValid text_of text e = ((e ≡ BadTuple) × SpellsNone IsValid text_of text) ⊎ (e ≡ NoMemory)

-- the value of the grammar that has this text
abbrev pub Parses : {A : Type 0} → (A → Type 0) → (A → List ℕ) → List ℕ → Result A Refusal → Type 0
Parses IsValid text_of text (Ok a) = IsValid a × (text ≡ text_of a)
Parses IsValid text_of text (Err e) = Refuses IsValid text_of text e

-- a name or an id is its own text
abbrev pub own_text : List ℕ → List ℕ
own_text bytes = bytes
