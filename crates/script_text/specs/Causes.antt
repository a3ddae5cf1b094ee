-- Why a line is refused: the first thing wrong with it, in the order length, shape, sizes, texts, tokens, repeats.
use Rattle.std.specs.Prelude.{◌≡◌, ◌≤◌, ◌<◌, ◌⊎◌, ℕ, List, ◌∷◌, length, codes, All}
use Rattle.tuples.specs.declared.change.Change.{Change}
use Rattle.tuples.specs.declared.change.Condition.{Condition}
use Rattle.tuples.specs.declared.tuple.Tuple.{Tuple}
use Rattle.tuples.specs.declared.tupleset.Tupleset.{Tupleset}
use Rattle.tuples.specs.Changes.{AreDistinct, changed, conditioned}
use Rattle.tuples.specs.Names.{IsName}
use Rattle.tuples.specs.Texts.{IsTuple, tuple_text}
use Rattle.tuples.specs.Limits.{max_changes, max_conditions, max_line}
use Rattle.refusal.specs.declared.refusal.Refusal.{Refusal}
use Rattle.refusal.specs.declared.refusal.Refusal.TheVariants.{BadRequest, BadTuple, TooLarge, Repeated, NoMemory}
use Rattle.json_lines.specs.Causes.{AreSets, ListCause}
use Rattle.script_text.specs.declared.command.Command.{Command}
use Rattle.script_text.specs.Lines.{IsFree, SpellsWords}
use Rattle.script_text.specs.Shapes.{Fresh, HasShape, Shape, at_least, check, exact, latest, read, watch, write}
use Rattle.script_text.specs.Words.{AreChanges, AreConditions, words_of}

-- ---- the parts of a write

abbrev pub AreFew : List (List ℕ) → List (List ℕ) → Type 0
AreFew changes conditions = (length changes ≤ max_changes) × (length conditions ≤ max_conditions)

-- a text of a write is no tuple's
abbrev pub AreMisspelled : List (List ℕ) → List (List ℕ) → Type 0
AreMisspelled changes conditions = (cs : List Change) (ds : List Condition) → AreChanges changes cs → AreConditions conditions ds → ⊥

-- two changes or two conditions of a write name one tuple
abbrev pub AreRepeated : List (List ℕ) → List (List ℕ) → Type 0
AreRepeated changes conditions = (cs : List Change) × (ds : List Condition) × AreChanges changes cs × AreConditions conditions ds × (AreDistinct (changed cs) → AreDistinct (conditioned ds) → ⊥)

abbrev pub WriteCause : List (List ℕ) → List (List ℕ) → Refusal → Type 0
WriteCause changes conditions TooLarge = (64 < length changes) ⊎ (16 < length conditions)
WriteCause changes conditions BadTuple = AreFew changes conditions × AreMisspelled changes conditions
WriteCause changes conditions Repeated = AreFew changes conditions × AreRepeated changes conditions
WriteCause changes conditions NoMemory = Unit {0}
WriteCause changes conditions _ = ⊥

-- ---- a request

-- the token of a freshness meets this
abbrev pub IsFresh : (List ℕ → Type 0) → Fresh → Type 0
IsFresh Meets latest = ⊥
IsFresh Meets (at_least z) = Meets z
IsFresh Meets (exact z) = Meets z

-- why a request in its shape is refused: by `ListCause`, with how many texts it has, that they are read, and what is wrong with its token
abbrev pub ShapeCause : ℕ → Shape → Refusal → Type 0
ShapeCause store (write changes conditions) e = WriteCause changes conditions e
ShapeCause store (read freshness sets) e = ListCause store (length sets) ((qs : List Tupleset) × AreSets sets qs) (λ IsBad. IsFresh IsBad freshness) e
ShapeCause store (check freshness tuple) e = ListCause store 1 ((t : Tuple) × IsTuple t × (tuple ≡ tuple_text t)) (λ IsBad. IsFresh IsBad freshness) e
ShapeCause store (watch from limit namespaces) e = ListCause store (length namespaces) (All IsName namespaces) (λ IsBad. IsBad from) e

-- ---- a line

-- the words are those of the request, or these after start and a free name
abbrev pub IsAsked : List (List ℕ) → List (List ℕ) → List (List ℕ) → Type 0
IsAsked running words request = (words ≡ request) ⊎ ((name : List ℕ) × IsFree running name × (words ≡ codes "start" ∷ name ∷ request))

-- the words are not a command's, nor a request's, whatever its texts are
pub record HaveNoShape (store shards : ℕ) (running words : List (List ℕ)) : Type 0 where
  pub nothing : (c : Command) → SpellsWords store shards running words c → ⊥
  pub no_request : (request : List (List ℕ)) (shape : Shape) → IsAsked running words request → HasShape request shape → ⊥

-- the words are those of a request in its shape, which is refused so
abbrev pub HaveCause : ℕ → List (List ℕ) → List (List ℕ) → Refusal → Type 0
HaveCause store running words e = (request : List (List ℕ)) × (shape : Shape) × IsAsked running words request × HasShape request shape × ShapeCause store shape e

-- memory may run out over any words
abbrev pub WordsCause : ℕ → ℕ → List (List ℕ) → List (List ℕ) → Refusal → Type 0
WordsCause store shards running words BadRequest = HaveNoShape store shards running words
WordsCause store shards running words NoMemory = Unit {0}
WordsCause store shards running words e = HaveCause store running words e

abbrev pub Cause : ℕ → ℕ → List (List ℕ) → List ℕ → Refusal → Type 0
Cause store shards running line TooLarge = (max_line < length line) ⊎ HaveCause store running (words_of line) TooLarge
Cause store shards running line e = WordsCause store shards running (words_of line) e
