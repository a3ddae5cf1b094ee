-- What the commands over a store in files may be given, and what words ask of each.
use Rattle.std.specs.Prelude.{◌≡◌, ◌↔◌, ◌∷◌, [], List, Option, Some, None, IsTrue, ℕ, codes, string_bytes, true}
use Rattle.clap.specs.Walk.{Rule, Text}
use Rattle.settings.specs.Options.{IsLineOf, MayTell, Tells, rule_taking, text_or, written}
use Rattle.settings.specs.declared.parameter.Takes.TheVariants as takes
use Rattle.settings.specs.declared.limits.TheConstants.{MAX_AMOUNT, MAX_MIB, MAX_PLACE, MAX_RETRY, MAX_SHARDS, MAX_STORE, MAX_WORKERS}
use Rattle.settings.specs.declared.serve.ServeSettings.{ServeSettings}
use Rattle.settings.specs.declared.dump.DumpSettings.{DumpSettings}
use Rattle.settings.specs.declared.reshard.ReshardSettings.{ReshardSettings}

-- ---- the options

-- an option that a command line must give, and one that is this text if it is not given
abbrev pub wanted : Rule → Rule
wanted rule = record rule { required = true }

abbrev pub by_default : Text → Rule → Rule
by_default default rule = record rule { defaults = default ∷ [] }

abbrev pub text_named : Text → Rule
text_named name = rule_taking name takes.Text

abbrev pub number_from : ℕ → ℕ → Text → Rule
number_from low high name = rule_taking name (takes.Number low high)

abbrev pub flag_named : Text → Rule
flag_named name = rule_taking name takes.Nothing

abbrev pub dir_rule : Rule
dir_rule = wanted (text_named (codes "dir"))

abbrev pub store_rule : Rule
store_rule = wanted (number_from 0 MAX_STORE (codes "store"))

abbrev pub shards_rule : Rule
shards_rule = wanted (number_from 1 MAX_SHARDS (codes "shards"))

abbrev pub serve_options : List Rule
serve_options =
    dir_rule ∷ store_rule ∷ shards_rule
    ∷ wanted (text_named (codes "listen"))
    ∷ wanted (number_from 1 MAX_WORKERS (codes "workers"))
    ∷ by_default (codes "1000000") (number_from 0 MAX_AMOUNT (codes "window"))
    ∷ by_default (codes "4096") (number_from 1 MAX_MIB (codes "window-mib"))
    ∷ by_default (codes "1024") (number_from 1 MAX_MIB (codes "answer-mib"))
    ∷ by_default (codes "0") (number_from 0 MAX_AMOUNT (codes "connections"))
    ∷ by_default (codes "10") (number_from 0 MAX_AMOUNT (codes "idle"))
    ∷ flag_named (codes "existing")
    ∷ flag_named (codes "end-when-down")
    ∷ []

abbrev pub dump_options : List Rule
dump_options = dir_rule ∷ store_rule ∷ shards_rule ∷ number_from 0 MAX_PLACE (codes "at") ∷ []

abbrev pub reshard_options : List Rule
reshard_options =
    dir_rule
    ∷ wanted (text_named (codes "to"))
    ∷ store_rule ∷ shards_rule
    ∷ wanted (number_from 1 MAX_SHARDS (codes "new-shards"))
    ∷ []

abbrev pub call_options : List Rule
call_options =
    wanted (rule_taking (codes "addr") takes.Word)
    ∷ number_from 0 MAX_RETRY (codes "retry")
    ∷ number_from 1 MAX_AMOUNT (codes "timeout")
    ∷ flag_named (codes "follow")
    ∷ flag_named (codes "reconnect")
    ∷ flag_named (codes "status")
    ∷ rule_taking (codes "words") takes.Rest
    ∷ []

-- ---- what is asked for; `told NAME DEFAULT` is the text of an option: what words give it, and else its default

pub record ToServe (told : Text → Option Text → Option Text) (s : ServeSettings) : Type 0 where
  pub dir : told (codes "dir") None ≡ Some (string_bytes s.dir)
  pub store : Tells (told (codes "store") None) 0 MAX_STORE s.store
  pub shards : Tells (told (codes "shards") None) 1 MAX_SHARDS s.shards
  pub listen : told (codes "listen") None ≡ Some (string_bytes s.listen)
  pub workers : Tells (told (codes "workers") None) 1 MAX_WORKERS s.workers
  pub window : Tells (told (codes "window") (Some (codes "1000000"))) 0 MAX_AMOUNT s.window
  pub window_mib : Tells (told (codes "window-mib") (Some (codes "4096"))) 1 MAX_MIB s.window_mib
  pub answer_mib : Tells (told (codes "answer-mib") (Some (codes "1024"))) 1 MAX_MIB s.answer_mib
  pub connections : Tells (told (codes "connections") (Some (codes "0"))) 0 MAX_AMOUNT s.connections
  pub idle : Tells (told (codes "idle") (Some (codes "10"))) 0 MAX_AMOUNT s.idle
  pub existing : IsTrue s.existing ↔ (told (codes "existing") (Some (codes "false")) ≡ Some (codes "true"))
  pub end_when_down : IsTrue s.end_when_down ↔ (told (codes "end-when-down") (Some (codes "false")) ≡ Some (codes "true"))

pub record ToDump (told : Text → Option Text → Option Text) (s : DumpSettings) : Type 0 where
  pub dir : told (codes "dir") None ≡ Some (string_bytes s.dir)
  pub store : Tells (told (codes "store") None) 0 MAX_STORE s.store
  pub shards : Tells (told (codes "shards") None) 1 MAX_SHARDS s.shards
  pub at : MayTell (told (codes "at") None) 0 MAX_PLACE s.at

pub record ToReshard (told : Text → Option Text → Option Text) (s : ReshardSettings) : Type 0 where
  pub dir : told (codes "dir") None ≡ Some (string_bytes s.dir)
  pub to : told (codes "to") None ≡ Some (string_bytes s.to)
  pub store : Tells (told (codes "store") None) 0 MAX_STORE s.store
  pub shards : Tells (told (codes "shards") None) 1 MAX_SHARDS s.shards
  pub new_shards : Tells (told (codes "new-shards") None) 1 MAX_SHARDS s.new_shards

-- ---- a command line

-- the words are the program's name, the command's and others, which ask for this
pub record AsksOf {S : Type 0} (command : Text) (options : List Rule) (asks : (Text → Option Text → Option Text) → S → Type 0) (words : List Text) (s : S) : Type 0 where
  pub rest : List Text
  pub line : IsLineOf command words rest
  pub asked : asks (λ option default. text_or default (written command options rest) option) s

abbrev pub AsksToServe : List Text → ServeSettings → Type 0
AsksToServe = AsksOf (codes "serve") serve_options ToServe

abbrev pub AsksToDump : List Text → DumpSettings → Type 0
AsksToDump = AsksOf (codes "dump") dump_options ToDump

abbrev pub AsksToReshard : List Text → ReshardSettings → Type 0
AsksToReshard = AsksOf (codes "reshard") reshard_options ToReshard
