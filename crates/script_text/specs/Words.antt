-- The words of a line.
use Rattle.std.specs.Prelude.{◌≡◌, ◌≤◌, ◌<◌, ◌^◌, ◌||◌, ◌==◌, ℕ, Bool, false, List, [], ◌∷◌, length, map, codes, All}
use Rattle.std.specs.Borrow.{Bor}
use Rattle.std.specs.List.{slice_split}
use Rattle.tuples.specs.declared.change.Change.{Change}
use Rattle.tuples.specs.declared.change.Condition.{Condition}
use Rattle.tuples.specs.declared.change.Want.{Want}
use Rattle.tuples.specs.declared.change.Want.TheVariants.{NotAfter}
use Rattle.tuples.specs.Changes.{changed, conditioned, tuple_of}
use Rattle.tuples.specs.Texts.{IsTuple, tuple_text}
use Rattle.script_text.specs.Texts.{IsWanted, change_text, condition_text, wanted_text}

-- what stands between the spaces of a line
abbrev pub words_of : List ℕ → List (List ℕ)
words_of line = slice_split (λ b. b == 32) line

-- the texts of borrowed words
abbrev pub texts : List (Bor (List ℕ)) → List (List ℕ)
texts = map (λ (w : Bor (List ℕ)). w.now)

-- if and these words; nothing if there are none
abbrev pub if_words : List (List ℕ) → List (List ℕ)
if_words [] = []
if_words (word ∷ words) = codes "if" ∷ word ∷ words

-- no word is empty
abbrev pub AreFull : List (List ℕ) → Type 0
AreFull = All (λ word. 1 ≤ length word)

-- a plus or a minus stands first
abbrev pub is_marked : List ℕ → Bool
is_marked [] = false
is_marked (b ∷ text) = (b == 43) || (b == 45)

-- no first word, or one that is not a change
abbrev pub AreBehind : List (List ℕ) → Type 0
AreBehind [] = Unit {0}
AreBehind (word ∷ words) = is_marked word ≡ false

-- what is wanted of each tuple has a text
abbrev pub AreWanted : List Condition → Type 0
AreWanted conditions = All (λ (c : Condition). IsWanted c.want) conditions

-- each word is a change
abbrev pub AreChanges : List (List ℕ) → List Change → Type 0
AreChanges words changes = (words ≡ map change_text changes) × All IsTuple (changed changes)

-- the word is this change
abbrev pub IsChangeOf : List ℕ → Change → Type 0
IsChangeOf word c = IsTuple (tuple_of c) × (word ≡ change_text c)

-- the word is this condition
abbrev pub IsConditionOf : List ℕ → Condition → Type 0
IsConditionOf word c = IsTuple c.tuple × IsWanted c.want × (word ≡ condition_text c)

-- each word is a condition
abbrev pub AreConditions : List (List ℕ) → List Condition → Type 0
AreConditions words conditions = (words ≡ map condition_text conditions) × All IsTuple (conditioned conditions) × AreWanted conditions

-- the word is this text with what is wanted of it, and every condition that it spells is of this text and wants that
pub record IsAskedOf (word text : List ℕ) (want : Want) : Type 0 where
  pub wanted : IsWanted want
  pub whole : word ≡ wanted_text text want
  pub only : (c : Condition) → IsTuple c.tuple → IsWanted c.want → word ≡ condition_text c → (text ≡ tuple_text c.tuple) × (c.want ≡ want)

-- the word is this text and a place, and every text and place that it spells are these
pub record IsPlacedOf (word text : List ℕ) (want : Want) : Type 0 where
  pub wanted : IsWanted want
  pub whole : word ≡ wanted_text text want
  pub only : (other : List ℕ) (place : ℕ) → place < 2 ^ 63 → word ≡ wanted_text other (NotAfter place) → (text ≡ other) × (NotAfter place ≡ want)

-- the word ends with no place
abbrev pub NamesNoPlace : List ℕ → Type 0
NamesNoPlace word = (text : List ℕ) (place : ℕ) → place < 2 ^ 63 → word ≡ wanted_text text (NotAfter place) → ⊥

-- the word is in a condition's shape: some text, which may be no tuple's, and what is wanted of it
abbrev pub HasConditionShape : List ℕ → Type 0
HasConditionShape word = (text : List ℕ) × (want : Want) × IsWanted want × (word ≡ wanted_text text want)

-- the word is in no condition's shape
abbrev pub AsksNothing : List ℕ → Type 0
AsksNothing word = (text : List ℕ) (want : Want) → IsWanted want → word ≡ wanted_text text want → ⊥
