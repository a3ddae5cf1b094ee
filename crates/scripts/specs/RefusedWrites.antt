-- What a line that asks for a write has done if it printed that memory was refused.
use Rattle.std.specs.Prelude.{◌≡◌, ◌≤◌, ◌⊎◌, ℕ, List, length, Option, Some, None}
use Rattle.names.specs.declared.call_name.CallName.{CallName}
use Rattle.cluster.specs.Steps.{Takes}
use Rattle.cluster.specs.Worlds.{WorldView}
use Rattle.cluster.specs.declared.event.What.{What}
use Rattle.cluster.specs.declared.event.What.TheVariants.{Began, Refused}
use Rattle.tuples.specs.declared.request.Request.TheVariants as request
use Rattle.cluster.specs.declared.step.Step.{Step}
use Rattle.cluster.specs.declared.step.Step.TheVariants as step
use Rattle.device.specs.Device.{State}
use Rattle.device.specs.declared.tear.Tear.{Tear}
use Rattle.script_text.specs.declared.command.Command.TheVariants.{Ask}
use Rattle.script_text.specs.PrintedTexts.{refusal_line}
use Rattle.refusal.specs.declared.refusal.Refusal.TheVariants.{NoMemory}
use Rattle.scripts.specs.Answering.{Tries}
use Rattle.scripts.specs.Going.{Goes, most_calls}
use Rattle.scripts.specs.Refusing.{GivesUp}
use Rattle.scripts.specs.Resharding.{Reshards}
use Rattle.scripts.specs.Scripts.{KeepsFlows, RunningView}
use Rattle.scripts.specs.Stepping.{IsNext, SetsScript, ShowsRows, shards_in}
use Rattle.tuples.specs.declared.write.Write.{Write}

module _ {S : Type 0} (takes : S → Step → Option What → S → Type 0) (nexts : S → ℕ → Option CallName → Type 0) where
  -- a flow began and made its calls to its end, and what it told there is that memory was refused: the write was refused
  abbrev pub EndsRefused : Step → S → S → Type 0
  EndsRefused first old new = (slot : ℕ) × (mid : S) × takes old first (Some (Began slot)) mid × Goes takes nexts slot None mid (Some (Refused NoMemory)) new

  -- a flow began, made as many calls as can be counted, still went on, and was given up
  abbrev pub IsGivenUp : Step → S → S → Type 0
  IsGivenUp first old new = (slot : ℕ) × (mid : S) × takes old first (Some (Began slot)) mid × (g : GivesUp takes nexts slot 0 mid new) × (most_calls ≤ length g.1.all)

  -- nothing was done, or one of these two
  abbrev pub IsRefusedMemory : Step → S → S → Type 0
  IsRefusedMemory first old new = (new ≡ old) ⊎ (EndsRefused first old new ⊎ IsGivenUp first old new)

module _ {D : Type 0} (gives : D → Type 0) (set : D → ℕ → Tear → Type 0) (state : D → State) (honest : D → Type 0) (moment : D → ℕ) (left_since : D → ℕ → List ℕ → Type 0) where
  -- A line that asked for a write, and printed this, did nothing; or its flow told so at its end; or it was given up after as many calls as can be
  -- counted. There is no other way.
  abbrev pub WritesRefusedMemory : Type 0
  WritesRefusedMemory = (id : ℕ) (w : Write) (old new : RunningView (WorldView D))
      → Tries (Takes state honest moment left_since) IsNext (ShowsRows state honest) (SetsScript set state honest moment left_since) (Reshards gives state honest moment left_since) shards_in id (Ask (request.Write w)) old (refusal_line NoMemory) new
      → IsRefusedMemory (Takes state honest moment left_since) IsNext (step.Start (request.Write w)) old.store new.store × KeepsFlows old new
