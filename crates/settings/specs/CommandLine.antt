-- What the words of a command line ask for: the program's command, as a parse sees it, and the
-- command lines that are right.
use Rattle.std.specs.Prelude.{◌≡◌, ◌≤◌, ◌⊎◌, ◌∷◌, ◌++◌, [], ℕ, List, Option, Some, None, IfSome}
use Rattle.std.specs.Prelude.{codes, pos, true}
use Rattle.std.specs.Option.{option_map_or}
use Rattle.std.specs.Str.Parse.{IsNumeral, digits_value, without_leading_plus}
use Rattle.settings.specs.declared.limits.TheConstants.{MAX_STORE}
use Rattle.tuples.specs.Limits.{max_shards}
use Rattle.clap.specs.Words.{App, IsAmong, Rule, Text, fault_of, new_app, new_rule, with_rule}
use Rattle.clap.specs.Words.{with_subcommand}
use Rattle.clap.specs.Simple.{on_top}
use Rattle.clap.specs.declared.builder.action.ArgAction.TheVariants.{Set}
use Rattle.clap.specs.declared.builder.value_parser.ValueParser.{ValueParser}
use Rattle.clap.specs.declared.builder.value_parser.ValueParser.TheVariants.{Signed, Unsigned}
use Rattle.clap.specs.declared.error.kind.ErrorKind.TheVariants.{DisplayHelp, DisplayVersion}

-- ---- the command

-- `--NAME VALUE` or `--NAME=VALUE`, with what it is read by and what it is if it is not given
abbrev pub option_named : Text → ValueParser → Text → Rule
option_named name parser default = record (new_rule name) {
  long = Some name;
  action = Some Set;
  value_names = 1;
  parser = Some parser;
  defaults = default ∷ [];
}

-- the id of the store: a number from 0 to the greatest id
abbrev pub store_option : Rule
store_option = option_named (codes "store") (Unsigned 0 MAX_STORE) (codes "1")

-- the number of shards: from 1 to the most that a store has
abbrev pub shards_option : Rule
shards_option = option_named (codes "shards") (Signed (pos 1) (pos max_shards)) (codes "2")

abbrev pub sim : App
sim = with_rule (with_rule (new_app (codes "sim")) store_option) shards_option

-- the program has the one command `sim`, and a command line has to name it
abbrev pub program : App
program =
    with_subcommand (on_top (λ s. record s { subcommand_required = true })
    (new_app (codes "zanstore"))) sim.top

-- ---- which command a command line is for

-- by the words after the program's name: the second one is the command's name, or `help`, and the command's name follows that
abbrev pub IsFor : Option Text → Option Text → Text → Type 0
IsFor second third command = (second ≡ Some command) ⊎ ((second ≡ Some (codes "help")) × (third ≡ Some command))

-- ---- a command line, in its own words

-- the number that decimal digits spell; a plus may stand first
abbrev pub number : Text → ℕ
number text = digits_value 10 (without_leading_plus text)

-- the text spells a number from low to high
pub record IsNumber (low high : ℕ) (text : Text) : Type 0 where
  pub numeral : IsNumeral 10 (without_leading_plus text)
  pub least : low ≤ number text
  pub most : number text ≤ high

abbrev pub long_word : Text → Text
long_word name = codes "--" ++ name

abbrev pub joined_word : Text → Text → Text
joined_word name value = codes "--" ++ name ++ codes "=" ++ value

-- the words that give an option its value, `--NAME VALUE` or `--NAME=VALUE`, or none of them
abbrev pub Gives : Text → Option Text → List Text → Type 0
Gives name None words = words ≡ []
Gives name (Some value) words =
    (words ≡ long_word name ∷ value ∷ []) ⊎ (words ≡ joined_word name value ∷ [])

-- the words are the program's name, `sim`, and each option once at most, in either order; `--` may
-- stand at the end
pub record IsLine (words : List Text) (store shards : Option Text) : Type 0 where
  pub name : Text
  pub store_words : List Text
  pub shards_words : List Text
  pub end : List Text
  pub store_given : Gives (codes "store") store store_words
  pub shards_given : Gives (codes "shards") shards shards_words
  pub ended : (end ≡ []) ⊎ (end ≡ codes "--" ∷ [])
  pub in_order : (words ≡ name ∷ codes "sim" ∷ (store_words ++ shards_words ++ end))
      ⊎ (words ≡ name ∷ codes "sim" ∷ (shards_words ++ store_words ++ end))

-- the number of the text, and this one if there is none
abbrev pub number_or : ℕ → Option Text → ℕ
number_or default text = option_map_or number text default

-- the words ask for `sim`, over this store with so many shards: what they give, or 1 and 2
pub record AsksFor (words : List Text) (store shards : ℕ) : Type 0 where
  pub store_text : Option Text
  pub shards_text : Option Text
  pub line : IsLine words store_text shards_text
  pub store_fits : IfSome store_text (IsNumber 0 MAX_STORE)
  pub shards_fit : IfSome shards_text (IsNumber 1 max_shards)
  pub store_is : store ≡ number_or 1 store_text
  pub shards_are : shards ≡ number_or 2 shards_text

-- the words ask for help, or for the version
abbrev pub AsksWhatThereIs : List Text → Type 0
AsksWhatThereIs words = IsAmong DisplayHelp (fault_of program words)
    ⊎ IsAmong DisplayVersion (fault_of program words)
