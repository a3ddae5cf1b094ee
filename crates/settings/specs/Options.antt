-- The options of a command, as a parse sees them, and what words give them.
use Rattle.std.specs.Prelude.{◌≡◌, ◌∷◌, [], ℕ, List, Option, Some, None, if◌then◌else◌, codes, false, true}
use Rattle.clap.specs.Lexer.{usize_max}
use Rattle.clap.specs.Simple.{App, Shape, built_leaf, inherited, marked_built, new_app, new_rule, new_shape, on_top, with_subcommand}
use Rattle.clap.specs.Walk.{Row, Rule, Text, first_of, has_row, nothing_held, rows_after, settled, walk}
use Rattle.clap.specs.declared.builder.action.ArgAction.TheVariants.{Append, Set, SetTrue}
use Rattle.clap.specs.declared.builder.value_parser.ValueParser.TheVariants.{Unsigned}
use Rattle.settings.specs.CommandLine.{IsNumber, number}
use Rattle.settings.specs.declared.parameter.Parameter.{Parameter}
use Rattle.settings.specs.declared.parameter.Takes.{Takes}
use Rattle.settings.specs.declared.parameter.Takes.TheVariants as takes
use Rattle.settings.specs.declared.parameter.Otherwise.{Otherwise}
use Rattle.settings.specs.declared.parameter.Otherwise.TheVariants as otherwise

-- ---- the program

-- an option by what follows its name
abbrev pub rule_taking : Text → Takes → Rule
rule_taking name takes.Text = record (new_rule name) { long = Some name; action = Some Set; value_names = 1 }
rule_taking name (takes.Number least most) = record (new_rule name) { long = Some name; action = Some Set; value_names = 1; parser = Some (Unsigned least most) }
rule_taking name takes.Nothing = record (new_rule name) { long = Some name; action = Some SetTrue }
rule_taking name takes.Word = record (new_rule name) { action = Some Set; value_names = 1 }
rule_taking name takes.Rest =
    record (new_rule name) { action = Some Append; value_names = 1; range = Some (record { start_inclusive = 0; end_inclusive = usize_max }); trailing_var_arg = true; is_simple = false }

-- and by what is made of words without it
abbrev pub rule_otherwise : Otherwise → Rule → Rule
rule_otherwise otherwise.Refused rule = record rule { required = true }
rule_otherwise otherwise.Missing rule = rule
rule_otherwise (otherwise.Default value) rule = record rule { defaults = value.now ∷ [] }

abbrev pub taking_rule : Parameter → Rule
taking_rule p = rule_taking p.name.now p.takes

abbrev pub rule_for : Parameter → Rule
rule_for p = rule_otherwise p.otherwise (taking_rule p)

-- the command with this name and these options, and the program that has it alone
abbrev pub command_shape : Text → List Rule → Shape
command_shape name options = record (new_shape name) { rules = options }

abbrev pub command_with : Text → List Rule → App
command_with name options = record { top = command_shape name options; subs = [] }

abbrev pub app_with : Text → List Rule → App
app_with name options = with_subcommand (on_top (λ s. record s { subcommand_required = true }) (new_app (codes "zanstore"))) (command_shape name options)

-- ---- what words give

-- the command as the program is built, with `--help`
abbrev pub built_command : Text → List Rule → Shape
built_command name options = built_leaf (inherited (marked_built (app_with name options).top) (command_shape name options))

-- what stands in the words after the command's name: a row for each option that they name
abbrev pub written : Text → List Rule → List Text → List Row
written name options rest =
    let rules = (built_command name options).rules in
    (settled rules (walk rules [] nothing_held rest).held).rows

-- the text that they give the option, and this one if they don't name it
abbrev pub text_or : Option Text → List Row → Text → Option Text
text_or default rows option = if has_row option rows then first_of option rows else default

-- the text spells this number, from low to high
pub record Tells (text : Option Text) (low high : ℕ) (n : ℕ) : Type 0 where
  pub spelled : Text
  pub text_is : text ≡ Some spelled
  pub fits : IsNumber low high spelled
  pub number_is : n ≡ number spelled

-- there is no text, or it spells this number, from low to high
abbrev pub MayTell : Option Text → ℕ → ℕ → Option ℕ → Type 0
MayTell text low high None = text ≡ None
MayTell text low high (Some n) = Tells text low high n

-- the words are the program's name, the command's and these
pub record IsLineOf (command : Text) (words rest : List Text) : Type 0 where
  pub program_name : Text
  pub words_are : words ≡ program_name ∷ command ∷ rest

-- the words are such a line, and ask for this, as a parse finds the texts of the options
pub record Asks {S : Type 0} (command : Text) (options : List Rule) (asks : (Text → Option Text → Option Text) → S → Type 0) (words : List Text) (s : S) : Type 0 where
  pub rest : List Text
  pub line : IsLineOf command words rest
  pub asked : asks (λ option default. first_of option (rows_after (built_command command options).rules [] rest)) s
