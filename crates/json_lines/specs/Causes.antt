-- Why a line is refused: the first thing wrong with it, in the order shape, sizes, texts, zookies, repeats.
use Rattle.std.specs.Prelude.{◌≡◌, ◌≤◌, ◌<◌, ◌^◌, ◌⊎◌, ℕ, List, [], ◌∷◌, ◌++◌, length, map, All, Option, Some, None}
use Rattle.tuples.specs.declared.tuple.Tuple.{Tuple}
use Rattle.tuples.specs.declared.tupleset.Tupleset.{Tupleset}
use Rattle.tuples.specs.Changes.{AreDistinct}
use Rattle.tuples.specs.Names.{IsName}
use Rattle.tuples.specs.Texts.{IsTuple, IsTupleset, tuple_text, tupleset_text}
use Rattle.tuples.specs.Limits.{max_changes, max_conditions}
use Rattle.zookie.specs.Zookies.{IsNoZookie, IsOfAnotherStore, zookie_text}
use Rattle.refusal.specs.declared.refusal.Refusal.{Refusal}
use Rattle.refusal.specs.declared.refusal.Refusal.TheVariants.{BadRequest, BadTuple, TooLarge, Repeated, BadZookie, WrongStore, NoMemory}
use Rattle.json_lines.specs.declared.shape.ChangeShape.{ChangeShape}
use Rattle.json_lines.specs.declared.shape.ChangeShape.TheVariants.{Touch, Delete}
use Rattle.json_lines.specs.declared.shape.ConditionShape.{ConditionShape}
use Rattle.json_lines.specs.declared.shape.WantShape.{WantShape}
use Rattle.json_lines.specs.declared.shape.WantShape.TheVariants.{Since, Exists, Absent}
use Rattle.json_lines.specs.declared.shape.FreshnessShape.{FreshnessShape}
use Rattle.json_lines.specs.declared.shape.FreshnessShape.TheVariants.{Latest, AtLeast, Exact}
use Rattle.json_lines.specs.Lines.{IsObject}
use Rattle.json_lines.specs.Shapes.{Field, Form, Writes, Reads, Checks, Watches, HasForm}

-- ---- texts

abbrev pub changed_text : ChangeShape → List ℕ
changed_text (Touch t) = t.now
changed_text (Delete t) = t.now

abbrev pub conditioned_text : ConditionShape → List ℕ
conditioned_text c = c.tuple.now

-- the texts of these tuples
abbrev pub AreTuples : List (List ℕ) → List Tuple → Type 0
AreTuples texts tuples = (texts ≡ map tuple_text tuples) × All IsTuple tuples

abbrev pub AreSets : List (List ℕ) → List Tupleset → Type 0
AreSets texts sets = (texts ≡ map tupleset_text sets) × All IsTupleset sets

-- each tuple of a write is spelled
abbrev pub AreSpelled : List ChangeShape → List ConditionShape → Type 0
AreSpelled changes conditions = (ts : List Tuple) × (us : List Tuple) × AreTuples (map changed_text changes) ts × AreTuples (map conditioned_text conditions) us

-- ---- zookies

-- the zookie of a place of this store
abbrev pub IsOfStore : ℕ → List ℕ → Type 0
IsOfStore store zookie = (place : ℕ) × (place < 2 ^ 64) × (zookie ≡ zookie_text store place)

-- each zookie of what is wanted meets this
abbrev pub IsPlaced : (List ℕ → Type 0) → WantShape → Type 0
IsPlaced Meets (Since z) = Meets z.now
IsPlaced Meets Exists = Unit {0}
IsPlaced Meets Absent = Unit {0}

-- it has a zookie, and this is wrong with it
abbrev pub IsMisplaced : (List ℕ → Type 0) → WantShape → Type 0
IsMisplaced IsBad (Since z) = IsBad z.now
IsMisplaced IsBad Exists = ⊥
IsMisplaced IsBad Absent = ⊥

abbrev pub ArePlaced : ℕ → List ConditionShape → Type 0
ArePlaced store conditions = All (λ (c : ConditionShape). IsPlaced (IsOfStore store) c.want) conditions

-- the first zookie that is not of this store is bad in this way
pub record IsFirst (store : ℕ) (IsBad : List ℕ → Type 0) (conditions : List ConditionShape) : Type 0 where
  pub front : List ConditionShape
  pub first : ConditionShape
  pub back : List ConditionShape
  pub whole : conditions ≡ front ++ first ∷ back
  pub placed : ArePlaced store front
  pub bad : IsMisplaced IsBad first.want

-- the zookie of a freshness meets this
abbrev pub IsFresh : (List ℕ → Type 0) → FreshnessShape → Type 0
IsFresh Meets Latest = ⊥
IsFresh Meets (AtLeast z) = Meets z.now
IsFresh Meets (Exact z) = Meets z.now

-- ---- the cause of each refusal of a shape

-- two changes or two conditions name one tuple
abbrev pub AreRepeated : List ChangeShape → List ConditionShape → Type 0
AreRepeated changes conditions = (ts : List Tuple) × (us : List Tuple) × AreTuples (map changed_text changes) ts × AreTuples (map conditioned_text conditions) us × (AreDistinct ts → AreDistinct us → ⊥)

abbrev pub AreFew : List ChangeShape → List ConditionShape → Type 0
AreFew changes conditions = (length changes ≤ max_changes) × (length conditions ≤ max_conditions)

abbrev pub WriteCause : ℕ → List ChangeShape → List ConditionShape → Refusal → Type 0
WriteCause store changes conditions TooLarge = (64 < length changes) ⊎ (16 < length conditions)
WriteCause store changes conditions BadTuple = AreFew changes conditions × (AreSpelled changes conditions → ⊥)
WriteCause store changes conditions BadZookie = AreFew changes conditions × AreSpelled changes conditions × IsFirst store IsNoZookie conditions
WriteCause store changes conditions WrongStore = AreFew changes conditions × AreSpelled changes conditions × IsFirst store (IsOfAnotherStore store) conditions
WriteCause store changes conditions Repeated = AreFew changes conditions × ArePlaced store conditions × AreRepeated changes conditions
WriteCause store changes conditions NoMemory = Unit {0}
WriteCause store changes conditions _ = ⊥

-- of this many texts; `AreRead` says that they are spelled, and `HasZookie` what is wrong with the zookie
abbrev pub ListCause : ℕ → ℕ → Type 0 → ((List ℕ → Type 0) → Type 0) → Refusal → Type 0
ListCause store count AreRead HasZookie TooLarge = 16 < count
ListCause store count AreRead HasZookie BadTuple = (count ≤ 16) × (AreRead → ⊥)
ListCause store count AreRead HasZookie BadZookie = (count ≤ 16) × AreRead × HasZookie IsNoZookie
ListCause store count AreRead HasZookie WrongStore = (count ≤ 16) × AreRead × HasZookie (IsOfAnotherStore store)
ListCause store count AreRead HasZookie NoMemory = Unit {0}
ListCause store count AreRead HasZookie _ = ⊥

abbrev pub listed : Option (List ConditionShape) → List ConditionShape
listed None = []
listed (Some conditions) = conditions

abbrev pub FormCause : ℕ → Form → Refusal → Type 0
FormCause store (Writes changes conditions) e = WriteCause store changes (listed conditions) e
FormCause store (Reads freshness sets) e = ListCause store (length sets) ((qs : List Tupleset) × AreSets (map (λ t. t.now) sets) qs) (λ IsBad. IsFresh IsBad freshness) e
FormCause store (Checks freshness tuple) e = ListCause store 1 ((t : Tuple) × IsTuple t × (tuple.now ≡ tuple_text t)) (λ IsBad. IsFresh IsBad freshness) e
FormCause store (Watches from limit namespaces) e = ListCause store (length namespaces) (All IsName (map (λ t. t.now) namespaces)) (λ IsBad. IsBad from.now) e

-- ---- and of a line

-- the line is in a shape that is refused so
abbrev pub HasCause : ℕ → List ℕ → Refusal → Type 0
HasCause store line e = (fields : List Field) × (form : Form) × IsObject line fields × HasForm fields form × FormCause store form e

-- the line is in no shape; memory may run out over any line
abbrev pub Cause : ℕ → List ℕ → Refusal → Type 0
Cause store line BadRequest = (fields : List Field) (form : Form) → IsObject line fields → HasForm fields form → ⊥
Cause store line NoMemory = Unit {0}
Cause store line e = HasCause store line e
