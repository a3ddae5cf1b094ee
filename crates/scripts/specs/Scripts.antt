-- What each line of a script does with a store, and what it prints.
use Rattle.std.specs.Prelude.{◌≡◌, ◌≤◌, ◌<◌, ◌⊎◌, ℕ, List, [], ◌∷◌, ◌++◌, codes, Option, Some, None, MatchOption, Result, Ok, Err, slice_get, slice_index}
use Rattle.std.specs.Global.{Vec}
use Rattle.std.specs.List.{flat_map, remove}
use Rattle.names.specs.declared.node_name.NodeName.{NodeName}
use Rattle.names.specs.declared.call_name.CallName.{CallName}
use Rattle.cluster.specs.declared.event.What.{What}
use Rattle.cluster.specs.declared.event.What.TheVariants.{Began}
use Rattle.cluster.specs.declared.step.Step.{Step}
use Rattle.cluster.specs.declared.step.Step.TheVariants as step
use Rattle.device.specs.declared.tear.Tear.{Tear}
use Rattle.journal.specs.declared.refused.Bank.{Bank}
use Rattle.script_text.specs.declared.command.Command.{Command}
use Rattle.script_text.specs.declared.command.Command.TheVariants.{Pass, Ask, Start, Handle, Care, Rows, Restart, Fail, Reshard}
use Rattle.script_text.specs.declared.flow.Handling.{Handling}
use Rattle.script_text.specs.declared.flow.Handling.TheVariants as handling
use Rattle.script_text.specs.PrintedTexts.{named_line, refusal_line, version_line}
use Rattle.refusal.specs.declared.refusal.Refusal.{Refusal}
use Rattle.refusal.specs.declared.refusal.Refusal.TheVariants.{Future}
use Rattle.tuples.specs.Limits.{max_shards}
use Rattle.tuples.specs.declared.version.Version.{Version}
use Rattle.scripts.specs.Cares.{Moves}
use Rattle.scripts.specs.Going.{Goes}
use Rattle.scripts.specs.Telling.{done_line, next_line, set_line, told_text}

-- A store, and the flows that run in it under names, each with its slot.
pub record RunningView (S : Type 0) : Type 0 where
  pub store : S
  pub names : List (List ℕ)
  pub slots : List ℕ

-- The id of a store, and what runs in it.
pub record ScriptView (S : Type 0) : Type 0 where
  pub id : ℕ
  pub running : RunningView S

-- the slot in which a flow has begun
abbrev pub slot_of : Option What → Option ℕ
slot_of (Some (Began slot)) = Some slot
slot_of told = None

-- the text of what began no flow: a refusal; a request beyond the numbers of places is ahead of every log
abbrev pub unbegun_text : ℕ → Option What → List ℕ
unbegun_text id None = refusal_line Future
unbegun_text id (Some what) = told_text id (Some what)

-- a flow that goes on tells its next call, and one that has ended its end
abbrev pub turned_text : ℕ → Option CallName → Option What → List ℕ
turned_text id (Some call) told = next_line call
turned_text id None told = told_text id told

-- what is kept of each flow: this one's is gone if it has no next call
abbrev pub KeepsIf : {A : Type 0} → Option CallName → ℕ → List A → List A → Type 0
KeepsIf (Some call) flow old new = new ≡ old
KeepsIf None flow old new = new ≡ remove old flow

abbrev pub rows_text : Result (Vec Version) Refusal → List ℕ
rows_text (Ok versions) = flat_map version_line versions.items
rows_text (Err e) = refusal_line e

-- a flow that has begun in a slot gets the name; what has begun none is told
abbrev pub Names : {S : Type 0} → ℕ → Option What → List ℕ → RunningView S → List ℕ → RunningView S → Type 0
Names id told name old text new = MatchOption (slot_of told) ((text ≡ unbegun_text id told) × (new.names ≡ old.names) × (new.slots ≡ old.slots))
    (λ slot. (text ≡ named_line (codes "started ") name) × (new.names ≡ old.names ++ name ∷ []) × (new.slots ≡ old.slots ++ slot ∷ []))

-- no flow begins or ends under a name
abbrev pub KeepsFlows : {S : Type 0} → RunningView S → RunningView S → Type 0
KeepsFlows old new = (new.names ≡ old.names) × (new.slots ≡ old.slots)

-- nothing is told of the flow of this number but that it is cancelled, and its name is free
abbrev pub TellsCancel : {S : Type 0} → ℕ → RunningView S → List ℕ → RunningView S → Type 0
TellsCancel flow old text new = (name : List ℕ) × (slice_get old.names flow ≡ Some name) × (text ≡ named_line (codes "cancelled ") name)
    × (new.names ≡ remove old.names flow) × (new.slots ≡ remove old.slots flow)

module _ {S : Type 0} (takes : S → Step → Option What → S → Type 0) (nexts : S → ℕ → Option CallName → Type 0) where
  -- a flow that has begun in a slot makes its calls to its end; what has begun none is told
  abbrev pub Ends : ℕ → Option What → S → List ℕ → S → Type 0
  Ends id told old text new = MatchOption (slot_of told) ((new ≡ old) × (text ≡ unbegun_text id told)) (λ slot. (end : Option What) × Goes takes nexts slot None old end new × (text ≡ told_text id end))

  -- a flow begins, and makes its calls to its end
  abbrev pub Serves : ℕ → Step → S → List ℕ → S → Type 0
  Serves id first old text new = (told : Option What) × (mid : S) × takes old first told mid × Ends id told mid text new

  -- a flow begins under a name
  abbrev pub Starts : ℕ → List ℕ → Step → RunningView S → List ℕ → RunningView S → Type 0
  Starts id name first old text new = (told : Option What) × takes old.store first told new.store × Names id told name old text new

  -- the flow of this number, in its slot, is told as it now is, and its name is free if it has ended
  abbrev pub Tells : ℕ → ℕ → Option What → RunningView S → List ℕ → RunningView S → Type 0
  Tells id flow told old text new = (next : Option CallName) × nexts new.store (slice_index old.slots flow) next × (text ≡ turned_text id next told)
      × KeepsIf next flow old.names new.names × KeepsIf next flow old.slots new.slots

  -- the flow in a slot is taken out, and makes its calls to its end
  abbrev pub Cancels : ℕ → S → S → Type 0
  Cancels slot old new = (told end : Option What) × (mid : S) × takes old (step.Cancel slot) told mid × Goes takes nexts slot None mid end new

  -- the flow of this number makes one call, or its calls until the one that is asked for, or to its end, or is cancelled
  abbrev pub Handles : ℕ → ℕ → Handling → RunningView S → List ℕ → RunningView S → Type 0
  Handles id flow handling.Turn old text new = (told : Option What) × takes old.store (step.Turn (slice_index old.slots flow)) told new.store × Tells id flow told old text new
  Handles id flow (handling.Until call) old text new = (told : Option What) × Goes takes nexts (slice_index old.slots flow) (Some call) old.store told new.store × Tells id flow told old text new
  Handles id flow handling.Run old text new = (told : Option What) × Goes takes nexts (slice_index old.slots flow) None old.store told new.store × Tells id flow told old text new
  Handles id flow handling.Cancel old text new = Cancels (slice_index old.slots flow) old.store new.store × TellsCancel flow old text new

-- that a store was carried over, or why it was not
abbrev pub resharded_text : Result (Unit {0}) Refusal → List ℕ
resharded_text (Ok done) = done_line
resharded_text (Err e) = refusal_line e

-- the versions that a shard shows, or why it shows none
abbrev pub Shows : {S : Type 0} → (S → ℕ → Result (Vec Version) Refusal → Type 0) → ℕ → S → List ℕ → Type 0
Shows shows shard s text = (result : Result (Vec Version) Refusal) × shows s shard result × (text ≡ rows_text result)

module _ {S : Type 0} (takes : S → Step → Option What → S → Type 0) (nexts : S → ℕ → Option CallName → Type 0) (shows : S → ℕ → Result (Vec Version) Refusal → Type 0) (sets : S → NodeName → Bank → ℕ → Tear → S → Type 0) (reshards : S → ℕ → Result (Unit {0}) Refusal → S → S → Type 0) (shards_of : S → ℕ) where
  -- the store is carried over to one of this many shards, or refuses, which is told
  abbrev pub ReshardsTo : ℕ → S → List ℕ → S → Type 0
  ReshardsTo shards old text new = (result : Result (Unit {0}) Refusal) × Moves takes reshards shards old result new × (text ≡ resharded_text result)

  -- A command is carried out at the store with this id, and prints this.
  abbrev pub CarriesOut : ℕ → Command → RunningView S → List ℕ → RunningView S → Type 0
  CarriesOut id Pass old text new = (text ≡ []) × (new ≡ old)
  CarriesOut id (Ask request) old text new = Serves takes nexts id (step.Start request) old.store text new.store × KeepsFlows old new
  CarriesOut id (Care care) old text new = Serves takes nexts id (step.Care care) old.store text new.store × KeepsFlows old new
  CarriesOut id (Start name request) old text new = Starts takes nexts id name (step.Start request) old text new
  CarriesOut id (Handle flow h) old text new = Handles takes nexts id flow h old text new
  CarriesOut id (Rows shard) old text new = Shows shows shard old.store text × (new ≡ old)
  CarriesOut id (Restart node) old text new = (told : Option What) × takes old.store (step.Restart node) told new.store × (text ≡ told_text id told) × KeepsFlows old new
  CarriesOut id (Fail f) old text new = sets old.store f.node f.bank f.n f.tear new.store × (text ≡ set_line) × KeepsFlows old new
  CarriesOut id (Reshard shards) old text new = ReshardsTo shards old.store text new.store × KeepsFlows old new

-- the flow that a command names is one of this many
abbrev pub IsAmong : Command → ℕ → Type 0
IsAmong (Handle flow h) count = flow < count
IsAmong c count = Unit {0}
