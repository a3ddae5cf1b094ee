-- The words of a request, whose texts may be of no tuple and of no token.
use Rattle.std.specs.Prelude.{◌≡◌, ◌≤◌, ℕ, true, List, [], ◌∷◌, ◌++◌, length, codes, All, Option, Some, None}
use Rattle.std.specs.List.{list_all}
use Rattle.std.specs.Fmt.{decimal}
use Rattle.script_text.specs.declared.shape.FreshShape.{FreshShape}
use Rattle.script_text.specs.declared.shape.FreshShape.TheVariants.{Latest, AtLeast, Exact}
use Rattle.script_text.specs.declared.shape.Shape.{Shape as AnyShape}
use Rattle.script_text.specs.declared.shape.Shape.TheVariants.{Write, Read, Check, Watch}
use Rattle.script_text.specs.Texts.{IsLimit}
use Rattle.script_text.specs.Words.{AreFull, HasConditionShape, if_words, is_marked, texts}

-- Which places may answer: the latest, or by the text of a token.
pub data Fresh : Type 0 where
  latest : Fresh
  at_least : List ℕ → Fresh
  exact : List ℕ → Fresh

-- A request by its texts: changes and conditions; a freshness and tuplesets, or a tuple; a token, a limit and namespaces.
pub data Shape : Type 0 where
  write : List (List ℕ) → List (List ℕ) → Shape
  read : Fresh → List (List ℕ) → Shape
  check : Fresh → List ℕ → Shape
  watch : List ℕ → ℕ → List (List ℕ) → Shape

-- latest, >=Z or =Z
abbrev pub fresh_word : Fresh → List ℕ
fresh_word latest = codes "latest"
fresh_word (at_least z) = codes ">=" ++ z
fresh_word (exact z) = codes "=" ++ z

abbrev pub shape_words : Shape → List (List ℕ)
shape_words (write changes conditions) = codes "write" ∷ changes ++ if_words conditions
shape_words (read freshness sets) = codes "read" ∷ fresh_word freshness ∷ sets
shape_words (check freshness tuple) = codes "check" ∷ fresh_word freshness ∷ tuple ∷ []
shape_words (watch from limit namespaces) = codes "watch" ∷ from ∷ decimal limit ∷ namespaces

-- The parts of a write: at least one change, each with its mark, and conditions in their shape.
pub record ArePartsShaped (changes conditions : List (List ℕ)) : Type 0 where
  pub some : 1 ≤ length changes
  pub marked : list_all is_marked changes ≡ true
  pub asked : All HasConditionShape conditions

-- at least one text, none of them empty
abbrev pub AreListed : List (List ℕ) → Type 0
AreListed words = (1 ≤ length words) × AreFull words

-- no list of changes, tuplesets or namespaces is empty, no word is, and a limit is from 1 to 256
abbrev pub IsShaped : Shape → Type 0
IsShaped (write changes conditions) = ArePartsShaped changes conditions
IsShaped (read freshness sets) = AreListed sets
IsShaped (check freshness tuple) = 1 ≤ length tuple
IsShaped (watch from limit namespaces) = (1 ≤ length from) × IsLimit limit × AreListed namespaces

-- the words are those of the request
abbrev pub HasShape : List (List ℕ) → Shape → Type 0
HasShape words shape = (words ≡ shape_words shape) × IsShaped shape

-- what was borrowed of a line
abbrev pub fresh_view : FreshShape → Fresh
fresh_view Latest = latest
fresh_view (AtLeast z) = at_least z.now
fresh_view (Exact z) = exact z.now

abbrev pub shape_view : AnyShape → Shape
shape_view (Write changes conditions) = write (texts changes.now) (texts conditions.now)
shape_view (Read freshness sets) = read (fresh_view freshness) (texts sets.now)
shape_view (Check freshness tuple) = check (fresh_view freshness) tuple.now
shape_view (Watch from limit namespaces) = watch from.now limit (texts namespaces.now)

-- words that are in no request's shape, or in this one
abbrev pub ReadsShape : List (List ℕ) → Option AnyShape → Type 0
ReadsShape words None = (shape : Shape) → HasShape words shape → ⊥
ReadsShape words (Some shape) = HasShape words (shape_view shape)
