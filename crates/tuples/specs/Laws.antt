-- Laws of the texts.
use Rattle.std.specs.Prelude.{◌≡◌, ℕ, List}
use Rattle.tuples.specs.declared.tuple.Tuple.{Tuple}
use Rattle.tuples.specs.declared.tupleset.Tupleset.{Tupleset}
use Rattle.tuples.specs.Texts.{IsTuple, IsTupleset, tuple_text, tupleset_text}

-- the text spells the tuple
abbrev pub Spells : List ℕ → Tuple → Type 0
Spells text t = IsTuple t × (text ≡ tuple_text t)

-- a text spells one tuple at most
abbrev pub OneTupleAText : Type 0
OneTupleAText = (text : List ℕ) (t u : Tuple) → Spells text t → Spells text u → t ≡ u

-- a tuple has one text
abbrev pub OneTextATuple : Type 0
OneTextATuple = (t : Tuple) (text other : List ℕ) → Spells text t → Spells other t → text ≡ other

-- the text spells the tupleset
abbrev pub SpellsSet : List ℕ → Tupleset → Type 0
SpellsSet text q = IsTupleset q × (text ≡ tupleset_text q)

-- a text spells one tupleset at most
abbrev pub OneTuplesetAText : Type 0
OneTuplesetAText = (text : List ℕ) (q r : Tupleset) → SpellsSet text q → SpellsSet text r → q ≡ r
