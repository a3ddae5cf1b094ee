-- What a loop over the elements of a list has written of its text.
use Rattle.std.specs.Prelude.{◌≡◌, ℕ, Bool, List, ◌++◌, map, drop}
use Rattle.serde_json.specs.Data.{Data, array}
use Rattle.serde_json.specs.View.{items_of}
use Rattle.serde_json.specs.Written.{compact_text, items_text}
use Rattle.json_lines.specs.declared.text.Text.{Text}
use Rattle.json_lines.specs.Grown.{Grown}

-- the text of the first elements; after it stands that of the others
pub record Listing {A : Type 0} (json : A → Data) (xs : List A) (i : ℕ) (is_later : Bool) (old new : Text) : Type 0 where
  pub text : List ℕ
  pub grown : Grown old new text
  pub whole : text ++ items_text is_later (items_of (map json (drop i xs))) ≡ compact_text (array (items_of (map json xs)))
