-- The short forms, by their texts: the words that each has, and the members of the request that it stands for.
use Rattle.std.specs.Prelude.{◌≡◌, ◌≤◌, ℕ, List, [], ◌∷◌, ◌++◌, length, map, codes, All, Some, None}
use Rattle.std.specs.Str.Parse.{IsNumeral, digits_value, without_leading_plus}
use Rattle.serde_json.specs.Data.{Data, string}
use Rattle.tuples.specs.Limits.{max_watched}
use Rattle.tuples.specs.Parsing.{Lacks}
use Rattle.json_lines.specs.Shapes.{Field, asks_sets, asks_tuple, change_with, question_with, since_with, texts_json, want_with, watch_with, write_with}

-- What a write does to a tuple: it puts it there, or takes it away.
pub data Changed : Type 0 where
  touched : List ℕ → Changed
  deleted : List ℕ → Changed

-- What a write asks of a tuple: that it was not changed since the token, that it is there, or that it is not.
pub data Asked : Type 0 where
  since : List ℕ → List ℕ → Asked
  exists : List ℕ → Asked
  absent : List ℕ → Asked

-- Which places may answer; the latest, if nothing is said.
pub data Fresh : Type 0 where
  unsaid : Fresh
  latest : Fresh
  at_least : List ℕ → Fresh
  exact : List ℕ → Fresh

-- A short form: changes and conditions, a freshness and tuplesets, a freshness and a tuple, or a token, a limit and namespaces.
pub data Short : Type 0 where
  writes : List Changed → List Asked → Short
  reads : Fresh → List (List ℕ) → Short
  checks : Fresh → List ℕ → Short
  watches : List ℕ → List ℕ → List (List ℕ) → Short

-- ---- its words

-- +T or -T
abbrev pub changed_word : Changed → List ℕ
changed_word (touched t) = 43 ∷ t
changed_word (deleted t) = 45 ∷ t

-- T=Z, ?T or !T
abbrev pub asked_word : Asked → List ℕ
asked_word (since t z) = t ++ 61 ∷ z
asked_word (exists t) = 63 ∷ t
asked_word (absent t) = 33 ∷ t

abbrev pub fresh_words : Fresh → List (List ℕ)
fresh_words unsaid = []
fresh_words latest = codes "latest" ∷ []
fresh_words (at_least z) = codes "at-least" ∷ z ∷ []
fresh_words (exact z) = codes "exact" ∷ z ∷ []

-- if and the conditions; nothing if there are none
abbrev pub if_words : List (List ℕ) → List (List ℕ)
if_words [] = []
if_words (word ∷ words) = codes "if" ∷ word ∷ words

abbrev pub short_words : Short → List (List ℕ)
short_words (writes changes conditions) = codes "write" ∷ map changed_word changes ++ if_words (map asked_word conditions)
short_words (reads freshness sets) = codes "read" ∷ fresh_words freshness ++ sets
short_words (checks freshness tuple) = codes "check" ∷ fresh_words freshness ++ tuple ∷ []
short_words (watches from limit namespaces) = codes "watch" ∷ from ∷ limit ∷ namespaces

-- the tuple of a condition with a token begins with no mark, and the token has no mark
abbrev pub IsAsked : Asked → Type 0
IsAsked (since t z) = ((rest : List ℕ) → t ≡ 63 ∷ rest → ⊥) × ((rest : List ℕ) → t ≡ 33 ∷ rest → ⊥) × Lacks 61 z
IsAsked (exists t) = Unit {0}
IsAsked (absent t) = Unit {0}

-- if no freshness is said, the words after it are those of none
abbrev pub IsOpened : Fresh → List (List ℕ) → Type 0
IsOpened unsaid rest = (f : Fresh) (more : List (List ℕ)) → rest ≡ fresh_words f ++ more → f ≡ unsaid
IsOpened latest rest = Unit {0}
IsOpened (at_least z) rest = Unit {0}
IsOpened (exact z) rest = Unit {0}

-- a number in decimal
abbrev pub limit_of : List ℕ → ℕ
limit_of text = digits_value 10 (without_leading_plus text)

-- from 1 to 256
pub record IsLimit (text : List ℕ) : Type 0 where
  pub numeral : IsNumeral 10 (without_leading_plus text)
  pub low : 1 ≤ limit_of text
  pub high : limit_of text ≤ max_watched

-- no list of changes, tuplesets or namespaces is empty
abbrev pub IsShort : Short → Type 0
IsShort (writes changes conditions) = (1 ≤ length changes) × All IsAsked conditions
IsShort (reads freshness sets) = IsOpened freshness sets × (1 ≤ length sets)
IsShort (checks freshness tuple) = IsOpened freshness (tuple ∷ [])
IsShort (watches from limit namespaces) = IsLimit limit × (1 ≤ length namespaces)

-- the words are those of the short form
abbrev pub HasShort : List (List ℕ) → Short → Type 0
HasShort words s = (words ≡ short_words s) × IsShort s

-- ---- what it stands for

abbrev pub changed_json : Changed → Data
changed_json (touched t) = change_with (codes "touch") t
changed_json (deleted t) = change_with (codes "delete") t

abbrev pub asked_json : Asked → Data
asked_json (since t z) = since_with z t
asked_json (exists t) = want_with (codes "exists") t
asked_json (absent t) = want_with (codes "absent") t

abbrev pub fresh_fields : Fresh → List Field
fresh_fields unsaid = []
fresh_fields latest = []
fresh_fields (at_least z) = (codes "at_least", string z) ∷ []
fresh_fields (exact z) = (codes "exact", string z) ∷ []

-- the members of the request, by the very words of the server's reader
abbrev pub short_fields : Short → List Field
short_fields (writes changes []) = write_with (map changed_json changes) None
short_fields (writes changes (c ∷ conditions)) = write_with (map changed_json changes) (Some (map asked_json (c ∷ conditions)))
short_fields (reads freshness sets) = question_with (fresh_fields freshness) (codes "read") (asks_sets sets)
short_fields (checks freshness tuple) = question_with (fresh_fields freshness) (codes "check") (asks_tuple tuple)
short_fields (watches from limit namespaces) = watch_with from (limit_of limit) (texts_json namespaces)
