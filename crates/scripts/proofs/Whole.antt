-- A write that a line asks for is whole, and a number of shards is one that a store may have.
use Rattle.std.specs.Prelude.{◌≤◌, ℕ, List}
use Rattle.cluster.specs.declared.step.Step.TheVariants as step
use Rattle.headline.specs.Told.{IsWholeStep}
use Rattle.script_text.specs.declared.command.Command.{Command}
use Rattle.script_text.specs.declared.command.Command.TheVariants.{Pass, Ask, Start, Handle, Care, Rows, Restart, Fail, Reshard}
use Rattle.script_text.specs.Lines.{IsRequest, Spells}
use Rattle.tuples.specs.Limits.{max_shards}
use Rattle.tuples.specs.declared.request.Request.{Request}
use Rattle.tuples.specs.declared.request.Request.TheVariants.{Write, Read, Check, Watch}

-- the step that begins its flow is whole, and its number of shards in its limits
abbrev pub IsWholeCommand : Command → Type 0
IsWholeCommand (Ask r) = IsWholeStep (step.Start r)
IsWholeCommand (Start name r) = IsWholeStep (step.Start r)
IsWholeCommand (Reshard shards) = (1 ≤ shards) × (shards ≤ max_shards)
IsWholeCommand c = Unit {0}

whole_request : (r : Request) → IsRequest r → IsWholeStep (step.Start r)
whole_request (Write w) is = is.0
whole_request (Read freshness sets) is = tt
whole_request (Check freshness t) is = tt
whole_request (Watch from limit names) is = tt

pub whole_command : (id shards : ℕ) (names : List (List ℕ)) (line : List ℕ) (c : Command) → Spells id shards names line c → IsWholeCommand c
whole_command id shards names line Pass spells = tt
whole_command id shards names line (Ask r) spells = whole_request r spells.1
whole_command id shards names line (Start name r) spells = whole_request r spells.3.1
whole_command id shards names line (Handle flow h) spells = tt
whole_command id shards names line (Care care) spells = tt
whole_command id shards names line (Rows shard) spells = tt
whole_command id shards names line (Restart node) spells = tt
whole_command id shards names line (Fail f) spells = tt
whole_command id shards names line (Reshard count) spells = spells.1
