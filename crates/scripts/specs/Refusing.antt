-- What a line for which memory was refused, and which says no more than that, has done.
use Rattle.std.specs.Prelude.{◌≡◌, ◌<◌, ◌⊎◌, ℕ, List, length, slice_index, Option, Some, None, Result}
use Rattle.std.specs.Global.{Vec}
use Rattle.names.specs.declared.call_name.CallName.{CallName}
use Rattle.cluster.specs.declared.event.What.{What}
use Rattle.cluster.specs.declared.step.Step.{Step}
use Rattle.cluster.specs.declared.step.Step.TheVariants as step
use Rattle.script_text.specs.declared.command.Command.{Command}
use Rattle.script_text.specs.declared.command.Command.TheVariants.{Pass, Ask, Start, Handle, Care, Rows, Restart, Fail, Reshard}
use Rattle.script_text.specs.declared.flow.Handling.{Handling}
use Rattle.script_text.specs.declared.flow.Handling.TheVariants as handling
use Rattle.refusal.specs.declared.refusal.Refusal.{Refusal}
use Rattle.tuples.specs.declared.version.Version.{Version}
use Rattle.scripts.specs.Going.{LeavesOff}
use Rattle.scripts.specs.Scripts.{Cancels, Ends, Handles, KeepsFlows, RunningView, Shows, Starts, slot_of}
use Rattle.scripts.specs.Telling.{told_text}

-- this much room is made before a line is carried out
abbrev pub line_room : ℕ
line_room = 128

-- a text of more bytes than that room has; the text of a write is never that long
abbrev pub IsLong : List ℕ → Type 0
IsLong text = line_room < length text

-- this much room for what became of one write in doubt
abbrev pub resolved_room : ℕ
resolved_room = 80

module _ {S : Type 0} (takes : S → Step → Option What → S → Type 0) (nexts : S → ℕ → Option CallName → Type 0) where
  -- the flow in a slot is cancelled, and is left off before it ends
  abbrev pub CancelsInPart : ℕ → S → S → Type 0
  CancelsInPart slot old new = (told : Option What) × (mid : S) × takes old (step.Cancel slot) told mid × LeavesOff takes nexts slot None 0 mid new

  -- a flow that has no name is left off, and then cancelled
  abbrev pub GivesUp : ℕ → ℕ → S → S → Type 0
  GivesUp slot each old new = (mid : S) × LeavesOff takes nexts slot None each old mid × (Cancels takes nexts slot mid new ⊎ CancelsInPart slot mid new)

  -- what a step that was to begin a flow told: its flow is given up; or all is done, and what is to be told of it is long
  abbrev pub EndsNot : ℕ → ℕ → Option What → S → S → Type 0
  EndsNot id each told old new = ((slot : ℕ) × (slot_of told ≡ Some slot) × GivesUp slot each old new)
      ⊎ ((text : List ℕ) × Ends takes nexts id told old text new × IsLong text)

  -- A line whose flow is to begin and end has begun none, and nothing is done; or it does not end, or not with a text that has room.
  abbrev pub ServesNot : ℕ → ℕ → Step → S → S → Type 0
  ServesNot id each first old new = (new ≡ old) ⊎ ((told : Option What) × (mid : S) × takes old first told mid × EndsNot id each told mid new)

  -- a line whose flow is to begin under a name has begun none; or it has, and its name is long
  abbrev pub StartsNot : ℕ → List ℕ → Step → RunningView S → RunningView S → Type 0
  StartsNot id name first old new = (new ≡ old) ⊎ ((text : List ℕ) × Starts takes nexts id name first old text new × IsLong text)

  -- the flow in a slot is left off, and keeps its name
  abbrev pub LeavesFlow : Handling → ℕ → S → S → Type 0
  LeavesFlow handling.Turn slot old new = ⊥
  LeavesFlow (handling.Until call) slot old new = LeavesOff takes nexts slot (Some call) 0 old new
  LeavesFlow handling.Run slot old new = LeavesOff takes nexts slot None 0 old new
  LeavesFlow handling.Cancel slot old new = CancelsInPart slot old new

  -- the flow of a name is left off; or all is done, and what is to be told of it is long
  abbrev pub HandlesNot : ℕ → ℕ → Handling → RunningView S → RunningView S → Type 0
  HandlesNot id flow h old new = (LeavesFlow h (slice_index old.slots flow) old.store new.store × KeepsFlows old new)
      ⊎ ((text : List ℕ) × Handles takes nexts id flow h old text new × IsLong text)

module _ {S : Type 0} (takes : S → Step → Option What → S → Type 0) (nexts : S → ℕ → Option CallName → Type 0) (shows : S → ℕ → Result (Vec Version) Refusal → Type 0) where
  -- What a command for which memory was refused has done. No write is told so: if one was to begin and end, none has begun, or its flow was given up
  -- after more calls than any makes; and none that has a name is told so.
  abbrev pub CarriesOutNot : ℕ → Command → RunningView S → RunningView S → Type 0
  CarriesOutNot id Pass old new = ⊥
  CarriesOutNot id (Ask request) old new = ServesNot takes nexts id 0 (step.Start request) old.store new.store × KeepsFlows old new
  CarriesOutNot id (Care care) old new = ServesNot takes nexts id resolved_room (step.Care care) old.store new.store × KeepsFlows old new
  CarriesOutNot id (Start name request) old new = StartsNot takes nexts id name (step.Start request) old new
  CarriesOutNot id (Handle flow h) old new = HandlesNot takes nexts id flow h old new
  CarriesOutNot id (Rows shard) old new = (text : List ℕ) × Shows shows shard old.store text × IsLong text × (new ≡ old)
  CarriesOutNot id (Restart node) old new = (told : Option What) × takes old.store (step.Restart node) told new.store × IsLong (told_text id told) × KeepsFlows old new
  CarriesOutNot id (Fail f) old new = ⊥
  CarriesOutNot id (Reshard shards) old new = ⊥
