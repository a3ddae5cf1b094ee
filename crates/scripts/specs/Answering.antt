-- How a line is answered.
use Rattle.std.specs.Prelude.{◌≡◌, ◌⊎◌, ℕ, List, Option, Result}
use Rattle.std.specs.Global.{Vec}
use Rattle.names.specs.declared.node_name.NodeName.{NodeName}
use Rattle.names.specs.declared.call_name.CallName.{CallName}
use Rattle.cluster.specs.declared.event.What.{What}
use Rattle.cluster.specs.declared.step.Step.{Step}
use Rattle.device.specs.declared.tear.Tear.{Tear}
use Rattle.journal.specs.declared.refused.Bank.{Bank}
use Rattle.script_text.specs.declared.command.Command.{Command}
use Rattle.script_text.specs.Causes.{Cause}
use Rattle.script_text.specs.Lines.{Spells}
use Rattle.script_text.specs.PrintedTexts.{refusal_line}
use Rattle.refusal.specs.declared.refusal.Refusal.{Refusal}
use Rattle.refusal.specs.declared.refusal.Refusal.TheVariants.{NoMemory}
use Rattle.tuples.specs.declared.version.Version.{Version}
use Rattle.scripts.specs.Refusing.{CarriesOutNot}
use Rattle.scripts.specs.Scripts.{CarriesOut, RunningView, ScriptView}

module _ {S : Type 0} (takes : S → Step → Option What → S → Type 0) (nexts : S → ℕ → Option CallName → Type 0) (shows : S → ℕ → Result (Vec Version) Refusal → Type 0) (sets : S → NodeName → Bank → ℕ → Tear → S → Type 0) (reshards : S → ℕ → Result (Unit {0}) Refusal → S → S → Type 0) (shards_of : S → ℕ) where
  -- a command is carried out, and this is told of it; or memory is refused to it, and that is told
  abbrev pub Tries : ℕ → Command → RunningView S → List ℕ → RunningView S → Type 0
  Tries id c old text new = CarriesOut takes nexts shows sets reshards shards_of id c old text new ⊎ ((text ≡ refusal_line NoMemory) × CarriesOutNot takes nexts shows id c old new)

  -- A line that spells a command at a store of as many shards as this one has carries it out, or is refused memory. One that spells none is refused with its cause, and nothing is done.
  abbrev pub Answers : List ℕ → ScriptView S → List ℕ → ScriptView S → Type 0
  Answers line old text new = (new.id ≡ old.id)
      × (((c : Command) × Spells old.id (shards_of old.running.store) old.running.names line c × Tries old.id c old.running text new.running)
      ⊎ ((e : Refusal) × Cause old.id (shards_of old.running.store) old.running.names line e × (text ≡ refusal_line e) × (new.running ≡ old.running)))
