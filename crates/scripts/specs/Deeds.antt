-- What was done for the lines of a script: its steps, each with what it told, the scripts that were set on devices, and where the store was carried over.
use mathlib.Core.Logic.{inl, inr}
use Rattle.std.specs.Prelude.{◌⊎◌, ℕ, List, [], ◌∷◌, ◌++◌, slice_index, Option, None, Some, Result, Ok, Err}
use Rattle.std.specs.Global.{Vec}
use Rattle.names.specs.declared.node_name.NodeName.{NodeName}
use Rattle.names.specs.declared.call_name.CallName.{CallName}
use Rattle.cluster.specs.declared.event.What.{What}
use Rattle.cluster.specs.declared.event.What.TheVariants.{Began, Ended, Next, Refused, Up}
use Rattle.cluster.specs.declared.step.Step.{Step}
use Rattle.cluster.specs.declared.step.Step.TheVariants as step
use Rattle.device.specs.declared.tear.Tear.{Tear}
use Rattle.journal.specs.declared.refused.Bank.{Bank}
use Rattle.script_text.specs.declared.command.Command.{Command}
use Rattle.script_text.specs.declared.command.Command.TheVariants.{Pass, Ask, Start, Handle, Care, Rows, Restart, Fail, Reshard}
use Rattle.script_text.specs.declared.flow.Handling.{Handling}
use Rattle.script_text.specs.declared.flow.Handling.TheVariants as handling
use Rattle.refusal.specs.declared.refusal.Refusal.{Refusal}
use Rattle.tuples.specs.declared.version.Version.{Version}
use Rattle.headline.specs.Acts.{Act, sets_script, takes_step}
use Rattle.scripts.specs.Answering.{Tries}
use Rattle.scripts.specs.Cares.{Taken}
use Rattle.scripts.specs.Refusing.{CancelsInPart, CarriesOutNot, EndsNot, GivesUp, HandlesNot, LeavesFlow, ServesNot, StartsNot, resolved_room}
use Rattle.scripts.specs.Runs.{Prints, RepliesTo}
use Rattle.scripts.specs.Scripts.{Cancels, CarriesOut, Ends, Handles, ReshardsTo, RunningView, ScriptView, Serves}

-- a step that told this, or a script that was set on a device
pub data Deed : Type 0 where
  took : Step → Option What → Deed
  set : NodeName → Bank → ℕ → Tear → Deed

-- A store was this, was cared for and was that, and then it was carried over to one of this many shards.
pub record Move (S : Type 0) : Type 0 where
  pub was : S
  pub cared : S
  pub shards : ℕ
  pub new : S

-- What was done, to the end; or until the store was carried over, and then the story of the one that it became.
pub data Story (S : Type 0) : Type 0 where
  one_life : List Deed → Story S
  more_lives : List Deed → Move S → Story S → Story S

-- what was done, and then more
abbrev pub before : {S : Type 0} → List Deed → Story S → Story S
before deeds (one_life more) = one_life (deeds ++ more)
before deeds (more_lives more move rest) = more_lives (deeds ++ more) move rest

-- one story, and then another
abbrev pub joined : {S : Type 0} → Story S → Story S → Story S
joined (one_life deeds) story = before deeds story
joined (more_lives deeds move rest) story = more_lives deeds move (joined rest story)

-- steps that were taken
abbrev pub steps_done : List Taken → List Deed
steps_done [] = []
steps_done (t ∷ steps) = took t.step t.told ∷ steps_done steps

abbrev pub acts_of : List Deed → List Act
acts_of [] = []
acts_of (took s told ∷ deeds) = takes_step s ∷ acts_of deeds
acts_of (set name bank n tear ∷ deeds) = sets_script name bank n tear ∷ acts_of deeds

-- what its steps told
abbrev pub told_by : List Deed → List (Option What)
told_by [] = []
told_by (took s told ∷ deeds) = told ∷ told_by deeds
told_by (set name bank n tear ∷ deeds) = told_by deeds

-- turns of the flow in a slot, the last one's word first
abbrev pub turns_done : ℕ → List (Option What) → List Deed
turns_done slot [] = []
turns_done slot (told ∷ before) = turns_done slot before ++ took (step.Turn slot) told ∷ []

module _ {S : Type 0} (takes : S → Step → Option What → S → Type 0) (nexts : S → ℕ → Option CallName → Type 0) where
  abbrev pub cancel_done : (slot : ℕ) (old new : S) → Cancels takes nexts slot old new → List Deed
  cancel_done slot old new c = took (step.Cancel slot) c.0 ∷ turns_done slot c.4.all

  abbrev pub part_done : (slot : ℕ) (old new : S) → CancelsInPart takes nexts slot old new → List Deed
  part_done slot old new c = took (step.Cancel slot) c.0 ∷ turns_done slot c.3.all

  abbrev pub ending_done : (slot : ℕ) (old new : S) → Cancels takes nexts slot old new ⊎ CancelsInPart takes nexts slot old new → List Deed
  ending_done slot old new (inl c) = cancel_done slot old new c
  ending_done slot old new (inr c) = part_done slot old new c

  abbrev pub giving_up_done : (slot each : ℕ) (old new : S) → GivesUp takes nexts slot each old new → List Deed
  giving_up_done slot each old new g = turns_done slot g.1.all ++ ending_done slot g.0 new g.2

  -- for what a step that was to begin a flow told
  abbrev pub end_done : (id : ℕ) (told : Option What) (old : S) (text : List ℕ) (new : S) → Ends takes nexts id told old text new → List Deed
  end_done id None old text new e = []
  end_done id (Some (Began slot)) old text new e = turns_done slot e.1.all
  end_done id (Some (Next call)) old text new e = []
  end_done id (Some (Ended answer)) old text new e = []
  end_done id (Some Up) old text new e = []
  end_done id (Some (Refused refusal)) old text new e = []

  abbrev pub serving_done : (id : ℕ) (first : Step) (old : S) (text : List ℕ) (new : S) → Serves takes nexts id first old text new → List Deed
  serving_done id first old text new s = took first s.0 ∷ end_done id s.0 s.1 text new s.3

  abbrev pub no_end_done : (id each : ℕ) (told : Option What) (old new : S) → EndsNot takes nexts id each told old new → List Deed
  no_end_done id each told old new (inl e) = giving_up_done e.0 each old new e.2
  no_end_done id each told old new (inr e) = end_done id told old e.0 new e.1

  abbrev pub not_serving_done : (id each : ℕ) (first : Step) (old new : S) → ServesNot takes nexts id each first old new → List Deed
  not_serving_done id each first old new (inl none) = []
  not_serving_done id each first old new (inr s) = took first s.0 ∷ no_end_done id each s.0 s.1 new s.3

  abbrev pub not_starting_done : (id : ℕ) (name : List ℕ) (first : Step) (old new : RunningView S) → StartsNot takes nexts id name first old new → List Deed
  not_starting_done id name first old new (inl none) = []
  not_starting_done id name first old new (inr s) = took first s.1.0 ∷ []

  abbrev pub handling_done : (id flow : ℕ) (h : Handling) (old : RunningView S) (text : List ℕ) (new : RunningView S) → Handles takes nexts id flow h old text new → List Deed
  handling_done id flow handling.Turn old text new d = took (step.Turn (slice_index old.slots flow)) d.0 ∷ []
  handling_done id flow (handling.Until call) old text new d = turns_done (slice_index old.slots flow) d.1.all
  handling_done id flow handling.Run old text new d = turns_done (slice_index old.slots flow) d.1.all
  handling_done id flow handling.Cancel old text new d = cancel_done (slice_index old.slots flow) old.store new.store d.0

  abbrev pub leaving_done : (h : Handling) (slot : ℕ) (old new : S) → LeavesFlow takes nexts h slot old new → List Deed
  leaving_done handling.Turn slot old new l = []
  leaving_done (handling.Until call) slot old new l = turns_done slot l.all
  leaving_done handling.Run slot old new l = turns_done slot l.all
  leaving_done handling.Cancel slot old new l = part_done slot old new l

  abbrev pub not_handling_done : (id flow : ℕ) (h : Handling) (old new : RunningView S) → HandlesNot takes nexts id flow h old new → List Deed
  not_handling_done id flow h old new (inl l) = leaving_done h (slice_index old.slots flow) old.store new.store l.0
  not_handling_done id flow h old new (inr d) = handling_done id flow h old d.0 new d.1

module _ {S : Type 0} (takes : S → Step → Option What → S → Type 0) (nexts : S → ℕ → Option CallName → Type 0) (shows : S → ℕ → Result (Vec Version) Refusal → Type 0) (sets : S → NodeName → Bank → ℕ → Tear → S → Type 0) (reshards : S → ℕ → Result (Unit {0}) Refusal → S → S → Type 0) (shards_of : S → ℕ) where
  -- for a store that was cared for, and carried over or not
  abbrev pub moving_done : (shards : ℕ) (old : S) (text : List ℕ) (new : S) → ReshardsTo takes nexts shows sets reshards shards_of shards old text new → Story S
  moving_done shards old text new (Ok done, m, is) = more_lives [] (record { was = old; cared = m.cared; shards = shards; new = new }) (one_life [])
  moving_done shards old text new (Err e, m, is) = one_life (steps_done m.cares.steps)

  -- for a command
  abbrev pub carrying_done : (id : ℕ) (c : Command) (old : RunningView S) (text : List ℕ) (new : RunningView S) → CarriesOut takes nexts shows sets reshards shards_of id c old text new → Story S
  carrying_done id Pass old text new p = one_life []
  carrying_done id (Ask request) old text new p = one_life (serving_done takes nexts id (step.Start request) old.store text new.store p.0)
  carrying_done id (Care care) old text new p = one_life (serving_done takes nexts id (step.Care care) old.store text new.store p.0)
  carrying_done id (Start name request) old text new p = one_life (took (step.Start request) p.0 ∷ [])
  carrying_done id (Handle flow h) old text new p = one_life (handling_done takes nexts id flow h old text new p)
  carrying_done id (Rows shard) old text new p = one_life []
  carrying_done id (Restart node) old text new p = one_life (took (step.Restart node) p.0 ∷ [])
  carrying_done id (Fail f) old text new p = one_life (set f.node f.bank f.n f.tear ∷ [])
  carrying_done id (Reshard shards) old text new p = moving_done shards old.store text new.store p.0

  -- for one to which memory was refused
  abbrev pub not_carrying_done : (id : ℕ) (c : Command) (old new : RunningView S) → CarriesOutNot takes nexts shows id c old new → List Deed
  not_carrying_done id Pass old new p = []
  not_carrying_done id (Ask request) old new p = not_serving_done takes nexts id 0 (step.Start request) old.store new.store p.0
  not_carrying_done id (Care care) old new p = not_serving_done takes nexts id resolved_room (step.Care care) old.store new.store p.0
  not_carrying_done id (Start name request) old new p = not_starting_done takes nexts id name (step.Start request) old new p
  not_carrying_done id (Handle flow h) old new p = not_handling_done takes nexts id flow h old new p
  not_carrying_done id (Rows shard) old new p = []
  not_carrying_done id (Restart node) old new p = took (step.Restart node) p.0 ∷ []
  not_carrying_done id (Fail f) old new p = []
  not_carrying_done id (Reshard shards) old new p = []

  abbrev pub trying_done : (id : ℕ) (c : Command) (old : RunningView S) (text : List ℕ) (new : RunningView S) → Tries takes nexts shows sets reshards shards_of id c old text new → Story S
  trying_done id c old text new (inl p) = carrying_done id c old text new p
  trying_done id c old text new (inr p) = one_life (not_carrying_done id c old new p.1)

  -- for a line
  abbrev pub reply_done : (line : List ℕ) (a : ScriptView S) (text : List ℕ) (b : ScriptView S) → RepliesTo takes nexts shows sets reshards shards_of line a text b → Story S
  reply_done line a text b (inl (small, (id, inl p))) = trying_done a.id p.0 a.running text b.running p.2
  reply_done line a text b (inl (small, (id, inr refused))) = one_life []
  reply_done line a text b (inr refused) = one_life []

  -- for lines, one after another
  abbrev pub done_for : (a : ScriptView S) (lines : List (List ℕ)) (text : List ℕ) (c : ScriptView S) → Prints takes nexts shows sets reshards shards_of a lines text c → Story S
  done_for a [] text c p = one_life []
  done_for a (line ∷ lines) text c p = joined (reply_done line a p.1 p.0 p.3) (done_for p.0 lines p.2 c p.4)
