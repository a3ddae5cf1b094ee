-- The options that the words after `sim` give, and the rows that they leave.
use Rattle.std.proofs.Common.{◌≡◌, ◌++◌, ◌∷◌, [], Bool, List, Option, Some, None, true, false, not, cond, refl, sym, codes, append-nil}
use Rattle.clap.specs.Walk.{Held, Row, Rule, Text, Waiting, idle, option, reading_by, settled_rows, used}
use Rattle.clap.specs.Simple.{Shape, built_leaf, filled, help_rule, inherited, marked_built}
use Rattle.clap.specs.Kinds.{Kinds, or_else}
use Rattle.clap.specs.Faults.{settle_fault, use_fault}
use Rattle.clap.specs.Takes.{value_passes}
use Rattle.clap.specs.declared.error.kind.ErrorKind.{ErrorKind}
use Rattle.clap.specs.declared.error.kind.ErrorKind.TheVariants as kind
use Rattle.clap.specs.declared.parser.matches.ValueSource.TheVariants.{CommandLine}
use Rattle.settings.specs.CommandLine.{joined_word, long_word, program, shards_option, sim, store_option}

-- ---- kinds

-- a kind that comes is not none
pub some_kind : (k : ErrorKind) (ks : Kinds) → k ∷ ks ≡ [] → ⊥
some_kind k ks e = cc

pub first_none : (a b : Kinds) → or_else a b ≡ [] → a ≡ []
first_none [] b e = refl
first_none (k ∷ ks) b e = e

pub second_none : (a b : Kinds) → or_else a b ≡ [] → b ≡ []
second_none [] b e = e
second_none (k ∷ ks) b e = absurd (some_kind k ks e)

accepted : (b : Bool) (k : ErrorKind) → or_else (cond b [] (k ∷ [])) [] ≡ [] → b ≡ true
accepted true k e = refl
accepted false k e = absurd (some_kind k [] e)

-- ---- `sim`, as it is built

abbrev pub sim_built : Shape
sim_built = built_leaf (inherited (marked_built program.top) sim.top)

abbrev pub store_rule : Rule
store_rule = filled store_option

abbrev pub shards_rule : Rule
shards_rule = filled shards_option

abbrev pub help_filled : Rule
help_filled = filled help_rule

abbrev pub rules : List Rule
rules = sim_built.rules

-- ---- the options by a `Bool`: true is `--store`

abbrev pub name_of : Bool → Text
name_of true = codes "store"
name_of false = codes "shards"

abbrev pub rule_for : Bool → Rule
rule_for true = store_rule
rule_for false = shards_rule

abbrev pub row_for : Bool → Text → Row
row_for b value = record {
  id = name_of b;
  values = value ∷ [];
  count = None;
  source = Some CommandLine;
  reading = reading_by (rule_for b);
}

-- the words of one use, in one word or in two
abbrev pub use_words : Bool → Text → Bool → List Text
use_words b value true = joined_word (name_of b) value ∷ []
use_words b value false = long_word (name_of b) ∷ value ∷ []

-- the options that were given, in their order
pub data Uses : Type 0 where
  none : Uses
  one : Bool → Text → Bool → Uses
  both : Bool → Text → Bool → Text → Bool → Uses

abbrev pub rows_of_uses : Uses → List Row
rows_of_uses none = []
rows_of_uses (one b v j) = row_for b v ∷ []
rows_of_uses (both b v j w k) = row_for b v ∷ row_for (not b) w ∷ []

abbrev pub words_of : Uses → List Text
words_of none = []
words_of (one b v j) = use_words b v j
words_of (both b v j w k) = use_words b v j ++ use_words (not b) w k

abbrev pub Pass : Uses → Type 0
Pass none = Unit {0}
Pass (one b v j) = value_passes (rule_for b) v ≡ true
Pass (both b v j w k) = (value_passes (rule_for b) v ≡ true) × (value_passes (rule_for (not b)) w ≡ true)

-- the rows and the words are those of uses that pass
pub record AreUses (rows : List Row) (words : List Text) : Type 0 where
  pub uses : Uses
  pub rows_are : rows ≡ rows_of_uses uses
  pub words_are : words_of uses ≡ words
  pub pass : Pass uses

-- one more use
pub add : (us : Uses) (b : Bool) (v : Text) (j : Bool) → Pass us → use_fault false (rule_for b) (v ∷ []) (rows_of_uses us) ≡ []
    → AreUses (used (rule_for b) (v ∷ []) (rows_of_uses us)) (words_of us ++ use_words b v j)
add none true v j p e = record { uses = one true v j; rows_are = refl; words_are = refl; pass = accepted (value_passes store_rule v) kind.ValueValidation e }
add none false v j p e = record { uses = one false v j; rows_are = refl; words_are = refl; pass = accepted (value_passes shards_rule v) kind.ValueValidation e }
add (one true u i) true v j p e = absurd (some_kind kind.ArgumentConflict [] e)
add (one true u i) false v j p e = record { uses = both true u i v j; rows_are = refl; words_are = refl; pass = (p, accepted (value_passes shards_rule v) kind.ValueValidation e) }
add (one false u i) true v j p e = record { uses = both false u i v j; rows_are = refl; words_are = refl; pass = (p, accepted (value_passes store_rule v) kind.ValueValidation e) }
add (one false u i) false v j p e = absurd (some_kind kind.ArgumentConflict [] e)
add (both true u i w k) true v j p e = absurd (some_kind kind.ArgumentConflict [] e)
add (both true u i w k) false v j p e = absurd (some_kind kind.ArgumentConflict [] e)
add (both false u i w k) true v j p e = absurd (some_kind kind.ArgumentConflict [] e)
add (both false u i w k) false v j p e = absurd (some_kind kind.ArgumentConflict [] e)

-- ---- the option that is being read

-- none, one that waits for its value, or one that has it
pub data Half : Type 0 where
  nothing : Half
  named : Bool → Half
  valued : Bool → Text → Half

abbrev pub pending_for : Half → Option (Text × List Text)
pending_for nothing = None
pending_for (named b) = Some (name_of b, [])
pending_for (valued b v) = Some (name_of b, v ∷ [])

abbrev pub waiting_for : Half → Waiting
waiting_for nothing = idle
waiting_for (named b) = option (name_of b)
waiting_for (valued b v) = idle

abbrev pub half_words : Half → List Text
half_words nothing = []
half_words (named b) = long_word (name_of b) ∷ []
half_words (valued b v) = use_words b v false

abbrev pub holding : List Row → Option (Text × List Text) → Held
holding rows pending = record { rows = rows; pending = pending; skip = 0 }

-- the option that was being read is used
pub settle : (us : Uses) (h : Half) → Pass us → settle_fault rules false (holding (rows_of_uses us) (pending_for h)) ≡ []
    → AreUses (settled_rows rules (pending_for h) (rows_of_uses us)) (words_of us ++ half_words h)
settle us nothing p e = record { uses = us; rows_are = refl; words_are = sym (append-nil (words_of us)); pass = p }
settle us (named true) p e = absurd (some_kind kind.InvalidValue [] e)
settle us (named false) p e = absurd (some_kind kind.InvalidValue [] e)
settle us (valued true v) p e = add us true v false p e
settle us (valued false v) p e = add us false v false p e
