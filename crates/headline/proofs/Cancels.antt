-- A cancel of the flow in a slot keeps the promise of a step: a write goes out, or on to its end, and any other flow is gone.
use Rattle.std.proofs.Common.{◌≡◌, ⊎_elim, ℕ, true, false, List, [], Option, Some, None, MatchOption, refl, sym, ◌∙◌, ap, subst}
use Rattle.std.proofs.lemmas.Bool.{cases_eq}
use Rattle.headline.proofs.Words.{Asked, Cancel, Care, CareFlow, Check, Flow, FlowView, Holds, IsIdle, IsShownFlow, IsShownSlot, Keeps, NamesHorizon, NodeName, Read, Running, RunsOne, Shows, SlotTurns, State, StepKeeps, Store, Watch, What, WorldView, Write, WriteView, Writing, all_told, asked_of, check_of, checking, events_of, flow_at, left, read_of, reading, running_at, seen_of, shown_flow, shown_until, shows_care, watching}
use Rattle.care_flow.specs.declared.care.CareFlow.TheVariants as cares
use Rattle.commit_flow.specs.Cancelling as writes
use Rattle.commit_flow.specs.Views.{view_ended}
use Rattle.stores.specs.Moments.{is_write}
use Rattle.turns.specs.Runs as runs
use Rattle.flow_turns.proofs.Cancels.{cancelled_flows_end}
use Rattle.flow_turns.specs.WritesSeen.{shown}
use Rattle.flow_turns.proofs.WriteCancels.{cancels_run}
use Rattle.cluster.specs.Cancels.{Cancels}
use Rattle.cluster.specs.Steps.{CancelsIn}
use Rattle.cluster.specs.Worlds.{Puts}
use Rattle.headline.proofs.Behind.{at_slot, off_slot, slot_turns, with_slot}
use Rattle.headline.proofs.Lifts.{shown_there}
use Rattle.headline.proofs.Slots.{none_shown}
use Rattle.headline.proofs.Still.{keeps_idle, none_runs, other_flows}

module _ {D : Type 0} (state : D → State) (honest : D → Type 0) (moment : D → ℕ) (left_since : D → ℕ → List ℕ → Type 0)
    (only_now : (d : D) (c : List ℕ) → honest d → left_since d (moment d) c → left (state d) c) where
  module _ (old new : WorldView D) (s : Store D) (shows : Shows old s) (slot : ℕ) (told : Option What) (untold : told ≡ None) (new_is : new ≡ record old { flows = new.flows }) where
    -- with this in the slot, and every other flow as it was, the store shows the world
    module _ (view : FlowView) (g : Option FlowView) (before : s.flows slot ≡ Some view) (flow : Option Flow) (put : Puts old.flows slot flow new.flows) (is_shown : IsShownSlot old.shards flow g) where
      abbrev store_then : Store D
      store_then = record s { flows = with_slot slot g s.flows }

      turned : SlotTurns slot view g s store_then
      turned = slot_turns s store_then slot view g before refl

      are_shown : (k : ℕ) → IsShownSlot old.shards (flow_at new.flows k) (store_then.flows k)
      are_shown k = ⊎_elim
          (λ same. subst (λ (j : ℕ). IsShownSlot old.shards (flow_at new.flows j) (store_then.flows j)) (sym same)
          (subst (λ (f : Option Flow). IsShownSlot old.shards f (store_then.flows slot)) (sym put.at) (subst (IsShownSlot old.shards flow) (sym (at_slot slot g s.flows)) is_shown)))
          (λ ne. subst (λ (f : Option Flow). IsShownSlot old.shards f (store_then.flows k)) (sym (put.others k ne))
          (subst (IsShownSlot old.shards (flow_at old.flows k)) (sym (off_slot slot g s.flows k ne)) (shows.flows k)))
          (cases_eq k slot)

      keeps : ((number : ℕ) → RunsOne state honest moment left_since old.store old.shards s number (runs.cancel slot) [] store_then) → Keeps state honest moment left_since old s (Cancel slot) told new
      keeps law = record {
        later = store_then;
        shows = λ now standing. subst (λ (w : WorldView D). Shows w store_then) (sym new_is) (other_flows old s shows new.flows (with_slot slot g s.flows) are_shown);
        store_is = ap (λ (w : WorldView D). w.store) new_is;
        shards_is = ap (λ (w : WorldView D). w.shards) new_is;
        runs = λ number. subst (λ (o : Option What). RunsOne state honest moment left_since old.store old.shards s number (runs.cancel slot) (events_of number (all_told o)) store_then) (sym untold) (law number);
      }

    -- any flow but a write is gone
    gone : (asked : Asked) (holds : Holds) → is_write asked ≡ false → s.flows slot ≡ Some (shown_flow asked holds) → Puts old.flows slot None new.flows → Keeps state honest moment left_since old s (Cancel slot) told new
    gone asked holds no_write before put = keeps (shown_flow asked holds) None before None put tt
        (λ number. cancelled_flows_end state honest moment left_since only_now old.store old.shards s (record s { flows = with_slot slot None s.flows }) slot asked holds (record {
          no_write = no_write;
          store_stays = record { devices = λ n. refl; at = λ n. refl; open_ids = refl; given = refl };
          slots = slot_turns s (record s { flows = with_slot slot None s.flows }) slot (shown_flow asked holds) None before refl;
        }) number)

    -- a write goes out, or on to its end, or it ends
    module _ (v : Writing) (before : s.flows slot ≡ Some (shown (seen_of v.flow) v.is_cancelled)) (then : WriteView) (c : writes.Cancels (seen_of v.flow) then) where
      abbrev view_then : Option FlowView
      view_then = shown_until then.ended then true

      write_cancelled : (later : Option Flow) → Puts old.flows slot later new.flows → IsShownSlot old.shards later view_then → Keeps state honest moment left_since old s (Cancel slot) told new
      write_cancelled later put is_shown = keeps (shown (seen_of v.flow) v.is_cancelled) view_then before later put is_shown
          (λ number. cancels_run state honest moment left_since only_now old.store old.shards s (record s { flows = with_slot slot view_then s.flows }) slot v.is_cancelled (seen_of v.flow) then (record {
            ended = refl;
            cancels = c;
            store_stays = record { devices = λ n. refl; at = λ n. refl; open_ids = refl; given = refl };
            slots = slot_turns s (record s { flows = with_slot slot view_then s.flows }) slot (shown (seen_of v.flow) v.is_cancelled) view_then before refl;
          }) number)

    -- whichever it is
    care_gone : (v : CareFlow) → s.flows slot ≡ Some (shows_care v) → Puts old.flows slot None new.flows → Keeps state honest moment left_since old s (Cancel slot) told new
    care_gone (cares.Flush v) before put = gone _ _ refl before put
    care_gone (cares.Learn v) before put = gone _ _ refl before put
    care_gone (cares.Resolve v) before put = gone _ _ refl before put
    care_gone (cares.Raise v) before put = gone _ _ refl before put
    care_gone (cares.Collect v) before put = gone _ _ refl before put

    put_none : (later : Option Flow) → Puts old.flows slot later new.flows → later ≡ None → Puts old.flows slot None new.flows
    put_none later put none = subst (λ (o : Option Flow). Puts old.flows slot o new.flows) none put

    by_kind : (flow : Flow) (later : Option Flow) (view : FlowView) → s.flows slot ≡ Some view → IsShownFlow old.shards flow view → Cancels flow later → Puts old.flows slot later new.flows
        → Keeps state honest moment left_since old s (Cancel slot) told new
    by_kind (Write v) (Some (Write w)) view before is c put = write_cancelled v (before ∙ ap (λ (x : FlowView). Some x) is.0) (seen_of w.flow) c.cancels (Some (Write w)) put (ap (shown (seen_of w.flow)) (sym c.marked), c.shards ∙ is.1)
    by_kind (Write v) None view before is c put = write_cancelled v (before ∙ ap (λ (x : FlowView). Some x) is.0) (view_ended c.0) c.1 None put tt
    by_kind (Write v) (Some later) view before is c put = absurd c
    by_kind (Read v) later view before is c put = gone (read_of v) (reading v.holds) refl (before ∙ ap (λ (x : FlowView). Some x) is.0) (put_none later put c)
    by_kind (Check v) later view before is c put = gone (check_of is.0 v) (checking v.holds) refl (before ∙ ap (λ (x : FlowView). Some x) is.1) (put_none later put c)
    by_kind (Watch v) later view before is c put = gone (asked_of v) (watching v.holds) refl (before ∙ ap (λ (x : FlowView). Some x) is.0) (put_none later put c)
    by_kind (Care v) later view before is c put = care_gone v (before ∙ ap (λ (x : FlowView). Some x) is.0) (put_none later put c)

  module _ (old new : WorldView D) (s : Store D) (shows : Shows old s) (slot : ℕ) (told : Option What) where
    empty : flow_at old.flows slot ≡ None → IsIdle state honest moment left_since old told new → Keeps state honest moment left_since old s (Cancel slot) told new
    empty none idle = keeps_idle state honest moment left_since only_now old new s shows (Cancel slot) told no_restart idle.0 idle.1
        (λ now standing. subst (λ (o : Option Running). runs.IfRunning old.shards (NamesHorizon state honest old.store old.shards s now) (runs.IsCancelled old.shards (NamesHorizon state honest old.store old.shards s now)) o now [] now)
        (sym (none_runs (running_at slot now.running) (s.flows slot) (none_shown old.shards old.flows s.flows shows.flows slot none) (standing.flows slot))) (refl, refl))
      where
        no_restart : (n : NodeName) → runs.cancel slot ≡ runs.restart n → ⊥
        no_restart n is = cc

    by_flow : (o : Option Flow) → flow_at old.flows slot ≡ o → MatchOption o (IsIdle state honest moment left_since old told new) (λ flow. CancelsIn state honest moment left_since old slot flow told new)
        → Keeps state honest moment left_since old s (Cancel slot) told new
    by_flow None none idle = empty none idle
    by_flow (Some flow) here (cancelled, untold, is) =
        let view = shown_there old.shards flow (s.flows slot) (subst (λ (f : Option Flow). IsShownSlot old.shards f (s.flows slot)) here (shows.flows slot)) in
        by_kind old new s shows slot told untold is flow cancelled.later view.0 view.1 view.2 cancelled.cancels cancelled.puts

  pub cancels_keep : (slot : ℕ) → StepKeeps state honest moment left_since (Cancel slot)
  cancels_keep slot old new s told shows whole takes = by_flow old new s shows slot told (flow_at old.flows slot) refl takes
