-- What was done for the lines of a script leads from the store before them to the store after them.
use Rattle.std.proofs.Common.{◌≡◌, ◌≤◌, ◌⊎◌, inl, inr, ℕ, List, [], ◌∷◌, ◌++◌, ap, refl, subst, sym, slice_index, Option, None, Some, Result, Ok, Err}
use Rattle.std.specs.Global.{Vec}
use Rattle.names.specs.declared.node_name.NodeName.{NodeName}
use Rattle.names.specs.declared.call_name.CallName.{CallName}
use Rattle.cluster.specs.declared.event.What.{What}
use Rattle.cluster.specs.declared.event.What.TheVariants.{Began, Ended, Next, Refused, Up}
use Rattle.cluster.specs.declared.step.Step.{Step}
use Rattle.cluster.specs.declared.step.Step.TheVariants as step
use Rattle.device.specs.declared.tear.Tear.{Tear}
use Rattle.journal.specs.declared.refused.Bank.{Bank}
use Rattle.script_text.specs.declared.command.Command.{Command}
use Rattle.script_text.specs.declared.command.Command.TheVariants.{Pass, Ask, Start, Handle, Care, Rows, Restart, Fail, Reshard}
use Rattle.script_text.specs.declared.flow.Handling.{Handling}
use Rattle.script_text.specs.declared.flow.Handling.TheVariants as handling
use Rattle.refusal.specs.declared.refusal.Refusal.{Refusal}
use Rattle.tuples.specs.declared.version.Version.{Version}
use Rattle.headline.specs.Told.{IsWholeStep}
use Rattle.std.specs.List.{AllByRecursion}
use Rattle.cluster.specs.declared.step.Step.TheVariants.{Start as start_step, Turn, Cancel, Care as care_step, Restart as restart_step}
use Rattle.reshard.specs.Caring.{IsCaring}
use Rattle.scripts.specs.Answering.{Tries}
use Rattle.scripts.specs.Cares.{Cares, Taken, TakesAll}
use Rattle.scripts.specs.Going.{Turns}
use Rattle.scripts.specs.Refusing.{CancelsInPart, CarriesOutNot, EndsNot, GivesUp, HandlesNot, LeavesFlow, ServesNot, StartsNot, resolved_room}
use Rattle.scripts.specs.Runs.{Prints, RepliesTo}
use Rattle.scripts.specs.Scripts.{Cancels, CarriesOut, Ends, Handles, ReshardsTo, RunningView, ScriptView, Serves}
use Rattle.tuples.specs.Limits.{max_shards}
use Rattle.scripts.specs.Deeds.{Deed, took, set, Move, Story, before, joined, more_lives, one_life, steps_done, moving_done, turns_done, cancel_done, part_done, ending_done, giving_up_done, end_done, serving_done, no_end_done, not_serving_done, not_starting_done, handling_done, leaving_done, not_handling_done, carrying_done, not_carrying_done, trying_done, reply_done, done_for}
use Rattle.scripts.proofs.Whole.{IsWholeCommand, whole_command}

module _ {S : Type 0} (takes : S → Step → Option What → S → Type 0) (sets : S → NodeName → Bank → ℕ → Tear → S → Type 0) where
  -- these were done one after another, and each step is whole
  abbrev pub Did : S → List Deed → S → Type 0
  Did old [] new = new ≡ old
  Did old (took s told ∷ deeds) new = (mid : S) × takes old s told mid × IsWholeStep s × Did mid deeds new
  Did old (set name bank n tear ∷ deeds) new = (mid : S) × sets old name bank n tear mid × Did mid deeds new

  pub did_append : (deeds more : List Deed) (a b c : S) → Did a deeds b → Did b more c → Did a (deeds ++ more) c
  did_append [] more a b c none behind = subst (λ (s : S). Did s more c) none behind
  did_append (took s told ∷ deeds) more a b c first behind = (first.0, first.1, first.2, did_append deeds more first.0 b c first.3 behind)
  did_append (set name bank n tear ∷ deeds) more a b c first behind = (first.0, first.1, did_append deeds more first.0 b c first.2 behind)

  -- a step of a care is whole
  caring_whole : (s : Step) → IsCaring s → IsWholeStep s
  caring_whole (start_step request) is = absurd is
  caring_whole (Turn slot) is = tt
  caring_whole (Cancel slot) is = absurd is
  caring_whole (care_step care) is = tt
  caring_whole (restart_step name) is = absurd is

  steps_did : (steps : List Taken) (old new : S) → AllByRecursion (λ (t : Taken). IsCaring t.step) steps → TakesAll takes old steps new → Did old (steps_done steps) new
  steps_did [] old new caring is = is
  steps_did (t ∷ steps) old new caring is = (is.0, is.1, caring_whole t.step caring.0, steps_did steps is.0 new caring.1 is.2)

  module _ (nexts : S → ℕ → Option CallName → Type 0) where
    turns_did : (slot : ℕ) (until : Option CallName) (all : List (Option What)) (old new : S) → Turns takes nexts slot until all old new → Did old (turns_done slot all) new
    turns_did slot until [] old new is = is
    turns_did slot until (told ∷ before) old new t =
        did_append (turns_done slot before) (took (step.Turn slot) told ∷ []) old t.0 new (turns_did slot until before old t.0 t.1) (new, t.3, tt, refl)

    cancel_did : (slot : ℕ) (old new : S) (c : Cancels takes nexts slot old new) → Did old (cancel_done takes nexts slot old new c) new
    cancel_did slot old new c = (c.2, c.3, tt, turns_did slot None c.4.all c.2 new c.4.turns)

    part_did : (slot : ℕ) (old new : S) (c : CancelsInPart takes nexts slot old new) → Did old (part_done takes nexts slot old new c) new
    part_did slot old new c = (c.1, c.2, tt, turns_did slot None c.3.all c.1 new c.3.turns)

    ending_did : (slot : ℕ) (old new : S) (e : Cancels takes nexts slot old new ⊎ CancelsInPart takes nexts slot old new) → Did old (ending_done takes nexts slot old new e) new
    ending_did slot old new (inl c) = cancel_did slot old new c
    ending_did slot old new (inr c) = part_did slot old new c

    giving_up_did : (slot each : ℕ) (old new : S) (g : GivesUp takes nexts slot each old new) → Did old (giving_up_done takes nexts slot each old new g) new
    giving_up_did slot each old new g =
        did_append (turns_done slot g.1.all) (ending_done takes nexts slot g.0 new g.2) old g.0 new (turns_did slot None g.1.all old g.0 g.1.turns) (ending_did slot g.0 new g.2)

    end_did : (id : ℕ) (told : Option What) (old : S) (text : List ℕ) (new : S) (e : Ends takes nexts id told old text new) → Did old (end_done takes nexts id told old text new e) new
    end_did id None old text new e = e.0
    end_did id (Some (Began slot)) old text new e = turns_did slot None e.1.all old new e.1.turns
    end_did id (Some (Next call)) old text new e = e.0
    end_did id (Some (Ended answer)) old text new e = e.0
    end_did id (Some Up) old text new e = e.0
    end_did id (Some (Refused refusal)) old text new e = e.0

    serving_did : (id : ℕ) (first : Step) (old : S) (text : List ℕ) (new : S) → IsWholeStep first → (s : Serves takes nexts id first old text new) → Did old (serving_done takes nexts id first old text new s) new
    serving_did id first old text new whole s = (s.1, s.2, whole, end_did id s.0 s.1 text new s.3)

    no_end_did : (id each : ℕ) (told : Option What) (old new : S) (e : EndsNot takes nexts id each told old new) → Did old (no_end_done takes nexts id each told old new e) new
    no_end_did id each told old new (inl e) = giving_up_did e.0 each old new e.2
    no_end_did id each told old new (inr e) = end_did id told old e.0 new e.1

    not_serving_did : (id each : ℕ) (first : Step) (old new : S) → IsWholeStep first → (s : ServesNot takes nexts id each first old new) → Did old (not_serving_done takes nexts id each first old new s) new
    not_serving_did id each first old new whole (inl none) = none
    not_serving_did id each first old new whole (inr s) = (s.1, s.2, whole, no_end_did id each s.0 s.1 new s.3)

    not_starting_did : (id : ℕ) (name : List ℕ) (first : Step) (old new : RunningView S) → IsWholeStep first → (s : StartsNot takes nexts id name first old new)
        → Did old.store (not_starting_done takes nexts id name first old new s) new.store
    not_starting_did id name first old new whole (inl none) = ap (λ (r : RunningView S). r.store) none
    not_starting_did id name first old new whole (inr s) = (new.store, s.1.1, whole, refl)

    handling_did : (id flow : ℕ) (h : Handling) (old : RunningView S) (text : List ℕ) (new : RunningView S) (d : Handles takes nexts id flow h old text new)
        → Did old.store (handling_done takes nexts id flow h old text new d) new.store
    handling_did id flow handling.Turn old text new d = (new.store, d.1, tt, refl)
    handling_did id flow (handling.Until call) old text new d = turns_did (slice_index old.slots flow) (Some call) d.1.all old.store new.store d.1.turns
    handling_did id flow handling.Run old text new d = turns_did (slice_index old.slots flow) None d.1.all old.store new.store d.1.turns
    handling_did id flow handling.Cancel old text new d = cancel_did (slice_index old.slots flow) old.store new.store d.0

    leaving_did : (h : Handling) (slot : ℕ) (old new : S) (l : LeavesFlow takes nexts h slot old new) → Did old (leaving_done takes nexts h slot old new l) new
    leaving_did handling.Turn slot old new l = absurd l
    leaving_did (handling.Until call) slot old new l = turns_did slot (Some call) l.all old new l.turns
    leaving_did handling.Run slot old new l = turns_did slot None l.all old new l.turns
    leaving_did handling.Cancel slot old new l = part_did slot old new l

    not_handling_did : (id flow : ℕ) (h : Handling) (old new : RunningView S) (n : HandlesNot takes nexts id flow h old new)
        → Did old.store (not_handling_done takes nexts id flow h old new n) new.store
    not_handling_did id flow h old new (inl l) = leaving_did h (slice_index old.slots flow) old.store new.store l.0
    not_handling_did id flow h old new (inr d) = handling_did id flow h old d.0 new d.1

    module _ (shows : S → ℕ → Result (Vec Version) Refusal → Type 0) (reshards : S → ℕ → Result (Unit {0}) Refusal → S → S → Type 0) (shards_of : S → ℕ) where
      -- a store was carried over
      pub record HasMoved (move : Move S) : Type 0 where
        pub some : 1 ≤ move.shards
        pub few : move.shards ≤ max_shards
        pub cares : Cares takes move.was move.cared
        pub moved : reshards move.was move.shards (Ok tt) move.cared move.new

      -- a story leads from one store to another
      abbrev pub Went : S → Story S → S → Type 0
      Went old (one_life deeds) new = Did old deeds new
      Went old (more_lives deeds move story) new = Did old deeds move.was × HasMoved move × Went move.new story new

      went_before : (deeds : List Deed) (story : Story S) (a b c : S) → Did a deeds b → Went b story c → Went a (before deeds story) c
      went_before deeds (one_life more) a b c first behind = did_append deeds more a b c first behind
      went_before deeds (more_lives more move rest) a b c first behind = (did_append deeds more a b move.was first behind.0, behind.1, behind.2)

      went_joined : (story more : Story S) (a b c : S) → Went a story b → Went b more c → Went a (joined story more) c
      went_joined (one_life deeds) more a b c first behind = went_before deeds more a b c first behind
      went_joined (more_lives deeds move rest) more a b c first behind = (first.0, first.1, went_joined rest more move.new b c first.2 behind)

      moving_went : (shards : ℕ) (old : S) (text : List ℕ) (new : S) → (1 ≤ shards) × (shards ≤ max_shards) → (p : ReshardsTo takes nexts shows sets reshards shards_of shards old text new)
          → Went old (moving_done takes nexts shows sets reshards shards_of shards old text new p) new
      moving_went shards old text new whole (Ok done, m, is) = (refl, record { some = whole.0; few = whole.1; cares = m.cares; moved = m.moves }, refl)
      moving_went shards old text new whole (Err e, m, is) = subst (λ (s : S). Did old (steps_done m.cares.steps) s) (sym m.stays) (steps_did m.cares.steps old m.cared m.cares.caring m.cares.took)

      carrying_went : (id : ℕ) (c : Command) (old : RunningView S) (text : List ℕ) (new : RunningView S) → IsWholeCommand c → (p : CarriesOut takes nexts shows sets reshards shards_of id c old text new)
          → Went old.store (carrying_done takes nexts shows sets reshards shards_of id c old text new p) new.store
      carrying_went id Pass old text new whole p = ap (λ (r : RunningView S). r.store) p.1
      carrying_went id (Ask request) old text new whole p = serving_did id (step.Start request) old.store text new.store whole p.0
      carrying_went id (Care care) old text new whole p = serving_did id (step.Care care) old.store text new.store tt p.0
      carrying_went id (Start name request) old text new whole p = (new.store, p.1, whole, refl)
      carrying_went id (Handle flow h) old text new whole p = handling_did id flow h old text new p
      carrying_went id (Rows shard) old text new whole p = ap (λ (r : RunningView S). r.store) p.1
      carrying_went id (Restart node) old text new whole p = (new.store, p.1, tt, refl)
      carrying_went id (Fail f) old text new whole p = (new.store, p.0, refl)
      carrying_went id (Reshard shards) old text new whole p = moving_went shards old.store text new.store whole p.0

      not_carrying_did : (id : ℕ) (c : Command) (old new : RunningView S) → IsWholeCommand c → (p : CarriesOutNot takes nexts shows id c old new)
          → Did old.store (not_carrying_done takes nexts shows sets reshards shards_of id c old new p) new.store
      not_carrying_did id Pass old new whole p = absurd p
      not_carrying_did id (Ask request) old new whole p = not_serving_did id 0 (step.Start request) old.store new.store whole p.0
      not_carrying_did id (Care care) old new whole p = not_serving_did id resolved_room (step.Care care) old.store new.store tt p.0
      not_carrying_did id (Start name request) old new whole p = not_starting_did id name (step.Start request) old new whole p
      not_carrying_did id (Handle flow h) old new whole p = not_handling_did id flow h old new p
      not_carrying_did id (Rows shard) old new whole p = ap (λ (r : RunningView S). r.store) p.3
      not_carrying_did id (Restart node) old new whole p = (new.store, p.1, tt, refl)
      not_carrying_did id (Fail f) old new whole p = absurd p
      not_carrying_did id (Reshard shards) old new whole p = absurd p

      trying_went : (id : ℕ) (c : Command) (old : RunningView S) (text : List ℕ) (new : RunningView S) → IsWholeCommand c → (t : Tries takes nexts shows sets reshards shards_of id c old text new)
          → Went old.store (trying_done takes nexts shows sets reshards shards_of id c old text new t) new.store
      trying_went id c old text new whole (inl p) = carrying_went id c old text new whole p
      trying_went id c old text new whole (inr p) = not_carrying_did id c old new whole p.1

      reply_went : (line : List ℕ) (a : ScriptView S) (text : List ℕ) (b : ScriptView S) (r : RepliesTo takes nexts shows sets reshards shards_of line a text b)
          → Went a.running.store (reply_done takes nexts shows sets reshards shards_of line a text b r) b.running.store
      reply_went line a text b (inl (small, (id, inl p))) = trying_went a.id p.0 a.running text b.running (whole_command a.id (shards_of a.running.store) a.running.names line p.0 p.1) p.2
      reply_went line a text b (inl (small, (id, inr p))) = ap (λ (r : RunningView S). r.store) p.3
      reply_went line a text b (inr (inl p)) = ap (λ (s : ScriptView S). s.running.store) p.2
      reply_went line a text b (inr (inr p)) = ap (λ (s : ScriptView S). s.running.store) p.1

      pub lines_went : (a : ScriptView S) (lines : List (List ℕ)) (text : List ℕ) (c : ScriptView S) (p : Prints takes nexts shows sets reshards shards_of a lines text c)
          → Went a.running.store (done_for takes nexts shows sets reshards shards_of a lines text c p) c.running.store
      lines_went a [] text c p = ap (λ (s : ScriptView S). s.running.store) p.1
      lines_went a (line ∷ lines) text c p =
          went_joined (reply_done takes nexts shows sets reshards shards_of line a p.1 p.0 p.3) (done_for takes nexts shows sets reshards shards_of p.0 lines p.2 c p.4) a.running.store p.0.running.store c.running.store
          (reply_went line a p.1 p.0 p.3) (lines_went p.0 lines p.2 c p.4)
