-- What is read of a text.
use Rattle.std.specs.Prelude.{◌≡◌, ◌⊎◌, ℕ, List}
use Rattle.tuples.specs.declared.change.Change.{Change}
use Rattle.tuples.specs.declared.change.Want.{Want}
use Rattle.tuples.specs.Changes.{tuple_of}
use Rattle.tuples.specs.Texts.{IsTuple, tuple_text}
use Rattle.refusal.specs.declared.refusal.Refusal.{Refusal}
use Rattle.refusal.specs.declared.refusal.Refusal.TheVariants.{BadTuple, BadZookie, WrongStore, NoMemory}
use Rattle.json_lines.specs.declared.shape.ChangeShape.{ChangeShape}
use Rattle.json_lines.specs.declared.shape.ConditionShape.{ConditionShape}
use Rattle.json_lines.specs.declared.shape.WantShape.{WantShape}
use Rattle.zookie.specs.Zookies.{IsNoZookie, IsOfAnotherStore}
use Rattle.json_lines.specs.Causes.{IsFirst, IsOfStore, IsPlaced, changed_text}
use Rattle.json_lines.specs.Lines.{written_change, written_want}
use Rattle.json_lines.specs.Shapes.{change_json, wanted_json}

-- why a value is not read of a text in its shape: the text is not in the grammar, or there is no memory
abbrev pub IsMisspelled : {A : Type 0} → (A → Type 0) → Refusal → Type 0
IsMisspelled {A} IsRead e = ((e ≡ BadTuple) × ((a : A) → IsRead a → ⊥)) ⊎ (e ≡ NoMemory)

-- the change of a shape
pub record ReadsChange (shape : ChangeShape) (c : Change) : Type 0 where
  pub json : change_json shape ≡ written_change c
  pub spelled : IsTuple (tuple_of c)
  pub text : changed_text shape ≡ tuple_text (tuple_of c)

-- why no place is read: what is wrong with a zookie
abbrev pub IsUnread : ℕ → ((List ℕ → Type 0) → Type 0) → Refusal → Type 0
IsUnread store Has BadZookie = Has IsNoZookie
IsUnread store Has WrongStore = Has (IsOfAnotherStore store)
IsUnread store Has _ = ⊥

-- what is wanted of a tuple
pub record ReadsWant (store : ℕ) (shape : WantShape) (want : Want) : Type 0 where
  pub json : (tuple : List ℕ) → wanted_json shape tuple ≡ written_want store want tuple
  pub placed : IsPlaced (IsOfStore store) shape

-- why conditions whose tuples are read are not
abbrev pub IsUnplaced : ℕ → List ConditionShape → Refusal → Type 0
IsUnplaced store conditions BadZookie = IsFirst store IsNoZookie conditions
IsUnplaced store conditions WrongStore = IsFirst store (IsOfAnotherStore store) conditions
IsUnplaced store conditions NoMemory = Unit {0}
IsUnplaced store conditions _ = ⊥
