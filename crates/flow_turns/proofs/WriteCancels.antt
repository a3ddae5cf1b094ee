-- A cancel of a write flow keeps the promise of a step.
use Rattle.std.proofs.Common.{◌≡◌, inl, inr, ℕ, Bool, true, true≢false, List, [], Option, Some, None, refl, sym, ◌∙◌, ap, subst}
use Rattle.std.proofs.Math.Path.{fun_ext}
use Rattle.flow_turns.proofs.WriteWords.{Asked, Change, Condition, DecidedValue, FlowView, IsHorizonIn, IsRight, IsRightWrite, Moment, NamesHorizon, NodeName, Ran, Record, Refusal, Running, ShowsFlow, SlotTurns, Stands, StandsOver, State, Store, WriteHolds, WriteValue, WriteView, asked_of, at_rest, ended, flow_at, flows_end, id_of, inside_by, left, onward, outward, replaced, shown, shown_until, still_given, still_within, stops, view_ended, writing}
use Rattle.commit_flow.specs.declared.end.WriteEnd.TheVariants.{Cancelled}
use Rattle.stores.specs.Flows.{Way}
use Rattle.stores.specs.Moments.{is_write}
use Rattle.stores.specs.Stores.{AreSound, ShowsSlot}
use Rattle.stores.proofs.FlowGoesOn.{flows_go_on}
use Rattle.turns.specs.Runs.{IfRunning, IsCancelled, cancel, restart}
use Rattle.flow_turns.proofs.Turned.{shows_ended, shows_going}
use Rattle.flow_turns.specs.WriteCancels.{CancelsRun, IsCancelledThere}
use Rattle.flow_turns.specs.Steps.{IsUncalled}
use Rattle.flow_turns.proofs.Going.{IsFlow, asked_is, changes, conditions, flow_there, holds_is, right}

module _ {D : Type 0} (state : D → State) (honest : D → Type 0) (moment : D → ℕ) (left_since : D → ℕ → List ℕ → Type 0)
    (only_now : (d : D) (c : List ℕ) → honest d → left_since d (moment d) c → left (state d) c)
    (store shards : ℕ) (old new : Store D) (slot : ℕ) (was_cancelled : Bool) (v : WriteView) (number : ℕ) (now : Moment) (standing : StandsOver state honest store shards old now) (still : IsUncalled old new)
    (r : Running) (flow : IsFlow state honest moment left_since store shards old new now standing number slot was_cancelled v r) where
  abbrev before : NodeName → List Record → Type 0
  before = stops state honest store shards old.devices

  abbrev Goal : WriteView → Type 0
  Goal later = SlotTurns slot (shown v was_cancelled) (shown_until later.ended later true) old new → Ran state honest moment left_since store shards old now number (cancel slot) [] new

  devices : new.devices ≡ old.devices
  devices = fun_ext (λ n. still.devices n)

  asks_write : is_write r.asked ≡ true
  asks_write = ap is_write (asked_is state honest moment left_since store shards old new now standing number slot was_cancelled v r flow)

  -- a step to these flows, over the same nodes and the same machine
  ran_to : (flows : List Running) → Stands store shards before (record now { running = flows }) → IsCancelled shards (NamesHorizon state honest store shards old now) now r [] (record now { running = flows })
      → ((k : ℕ) → ShowsSlot (flow_at k flows) (new.flows k)) → Ran state honest moment left_since store shards old now number (cancel slot) [] new
  ran_to flows stands cancelled shows = record {
    after = record now { running = flows };
    told = [];
    takes = subst (λ (o : Option Running). IfRunning shards (NamesHorizon state honest store shards old now) (IsCancelled shards (NamesHorizon state honest store shards old now)) o now [] (record now { running = flows })) (sym flow.there) cancelled;
    tells = refl;
    stands = record {
      sound = subst (λ (f : NodeName → D × D). AreSound state honest store shards f) (sym devices) standing.sound;
      nodes = record {
        at = λ n. standing.nodes.at n ∙ sym (still.at n);
        open_ids = standing.nodes.open_ids ∙ sym still.open_ids;
        given = standing.nodes.given ∙ sym still.given;
      };
      flows = shows;
      stands = subst (λ (f : NodeName → D × D). Stands store shards (stops state honest store shards f) (record now { running = flows })) (sym devices) stands;
    };
    named = λ x is. inr (subst (λ (f : NodeName → D × D). IsHorizonIn store shards (stops state honest store shards f) now.nodes x) devices is);
    fails = λ n there is_down not_down. absurd (not_down is_down);
    opens = λ n there is. absurd (no_restart n is);
    inside = inside_by state honest moment left_since store shards old new now standing (still_within state honest moment left_since store shards old new now standing only_now devices) now.machine;
    given = still_given state honest moment left_since store shards old new now standing devices;
  }
    where
      no_restart : (n : NodeName) → cancel slot ≡ restart n → ⊥
      no_restart n is = cc

  -- the flow after the cancel, with these in its hands
  abbrev cancelled_with : WriteHolds → Running
  cancelled_with k = record r { holds = writing k; is_cancelled = true }

  abbrev the_changes : List Change
  the_changes = changes state honest moment left_since store shards old new now standing number slot was_cancelled v r flow

  abbrev the_conditions : List Condition
  the_conditions = conditions state honest moment left_since store shards old new now standing number slot was_cancelled v r flow

  held : IsRightWrite shards before now r the_changes the_conditions v.holds
  held = right state honest moment left_since store shards old new now standing number slot was_cancelled v r flow

  goes_on_cancelled : (k : WriteHolds) (g : FlowView) → k.id ≡ v.holds.id → IsRightWrite shards before now (cancelled_with k) the_changes the_conditions k → ShowsFlow (cancelled_with k) g
      → SlotTurns slot (shown v was_cancelled) (Some g) old new → Ran state honest moment left_since store shards old now number (cancel slot) [] new
  goes_on_cancelled k g same_id is_right shows slots = ran_to (replaced (cancelled_with k) now.running)
      (flows_go_on store shards before now r (cancelled_with k) standing.stands flow.running refl (same_id ∙ sym (ap id_of held_is)) (standing.stands.flows.seen r flow.running)
      (λ no_write. absurd (true≢false (sym asks_write ∙ no_write)))
      (subst (λ (a : Asked). IsRight shards before now (cancelled_with k) a (writing k)) (sym (asked_is state honest moment left_since store shards old new now standing number slot was_cancelled v r flow)) is_right))
      (record {
        tells = refl;
        machine = refl;
        nodes = refl;
        told_before = refl;
        named = refl;
        running = inl (asks_write, (cancelled_with k, refl, same_id ∙ sym (ap id_of held_is), refl));
        others_end = λ no_write. absurd (true≢false (sym asks_write ∙ no_write));
      })
      (shows_going state honest moment left_since store shards old new now standing number slot (shown v was_cancelled) (Some g) slots r flow.there (cancelled_with k) g refl refl shows)
    where
      held_is : r.holds ≡ writing v.holds
      held_is = holds_is state honest moment left_since store shards old new now standing number slot was_cancelled v r flow

  -- a write that is not begun ends
  ends_unbegun : v.holds.decided ≡ None → Goal (view_ended Cancelled)
  ends_unbegun none slots = ran_to (ended r.slot now.running) (flows_end store shards before now r.slot standing.stands)
      (record {
        tells = refl;
        machine = refl;
        nodes = refl;
        told_before = refl;
        named = refl;
        running = inr (sym held.same_decision ∙ none, refl);
        others_end = λ no_write. refl;
      })
      (shows_ended state honest moment left_since store shards old new now standing number slot (shown v was_cancelled) None slots r flow.there refl)

  -- one that is begun and not decided goes out
  goes_out_begun : v.write ≡ None → v.holds.decided ≡ None → Goal (at_rest (record v.holds { way = outward None; batch = None }))
  goes_out_begun begun none slots = goes_on_cancelled (record v.holds { way = outward None; batch = None }) (shown (at_rest (record v.holds { way = outward None; batch = None })) true) refl
      (record {
        nothing = λ no_id. let k = held.nothing no_id in record { intent = k.intent; tickets = k.tickets; votes = k.votes; decided = k.decided; verdict = k.verdict };
        own = λ id is. let o = held.own id is in
            record { undecided = o.undecided; intent = o.intent; tickets = o.tickets; votes = o.votes; decision = o.decision; verdict = o.verdict; not_reopened = o.not_reopened; gave = λ way. absurd cc };
        same_decision = held.same_decision;
        batch = λ b is. absurd cc;
        out = λ met is. (sym held.same_decision ∙ none, λ e is_e. let both : outward None ≡ outward (Some e) = is ∙ ap outward is_e in absurd cc);
        cancelled = λ is undecided. (None, refl);
        refused_or_cancelled = λ is. refl;
      })
      (record {
        asked = λ a is. absurd cc;
        still_asked = λ no_id.
            let both : None ≡ Some r.asked = ap asked_of (sym begun) ∙ flow.shows.still_asked (ap id_of (holds_is state honest moment left_since store shards old new now standing number slot was_cancelled v r flow) ∙ no_id) in absurd cc;
        holds = refl;
        cancelled = refl;
      })
      slots

  -- any other goes on as it was: it is on its way out, or decided
  goes_on_still : (v.holds.decided ≡ None → (met : Option Refusal) × (v.holds.way ≡ outward met)) → v.ended ≡ None → Goal v
  goes_on_still out not_ended slots = goes_on_cancelled v.holds (shown v true) refl
      (record {
        nothing = held.nothing;
        own = λ id is. let o = held.own id is in
            record { undecided = o.undecided; intent = o.intent; tickets = o.tickets; votes = o.votes; decision = o.decision; verdict = o.verdict; not_reopened = o.not_reopened; gave = o.gave };
        same_decision = held.same_decision;
        batch = held.batch;
        out = held.out;
        cancelled = λ is undecided. out (held.same_decision ∙ undecided);
        refused_or_cancelled = λ is. refl;
      })
      (record {
        asked = flow.shows.asked;
        still_asked = λ no_id. flow.shows.still_asked (ap id_of (holds_is state honest moment left_since store shards old new now standing number slot was_cancelled v r flow) ∙ no_id);
        holds = refl;
        cancelled = refl;
      })
      (subst (λ end. SlotTurns slot (shown v was_cancelled) (shown_until end v true) old new) not_ended slots)

  module _ (later : WriteView) (there : IsCancelledThere state honest moment left_since store shards old new slot was_cancelled v later) where
    by_stage : (w : Way) → v.holds.way ≡ w → (o : Option DecidedValue) → v.holds.decided ≡ o → (x : Option WriteValue) → v.write ≡ x → Goal later
    by_stage onward way None none (Some write) has = subst Goal (sym (there.cancels.unbegun (record { way = way; decided = none }) (λ no. let both : Some write ≡ None = sym has ∙ no in cc)))
        (ends_unbegun none)
    by_stage onward way None none None begun = subst Goal (sym (there.cancels.begun (record { way = way; decided = none }) begun)) (goes_out_begun begun none)
    by_stage onward way (Some d) decided x has = subst Goal (sym (there.cancels.others (λ u. let both : None ≡ Some d = sym u.decided ∙ decided in cc)))
        (goes_on_still (λ none. let both : None ≡ Some d = sym none ∙ decided in absurd cc) there.ended)
    by_stage (outward met) way o decided x has = subst Goal (sym (there.cancels.others (λ u. let both : onward ≡ outward met = sym u.way ∙ way in cc)))
        (goes_on_still (λ none. (met, way)) there.ended)

module _ {D : Type 0} (state : D → State) (honest : D → Type 0) (moment : D → ℕ) (left_since : D → ℕ → List ℕ → Type 0)
    (only_now : (d : D) (c : List ℕ) → honest d → left_since d (moment d) c → left (state d) c) (store shards : ℕ) where
  pub cancels_run : CancelsRun state honest moment left_since store shards
  cancels_run old new slot was_cancelled v later there number now standing =
      let flow = flow_there state honest moment left_since store shards old new now standing number slot was_cancelled v _ there.slots in
      by_stage state honest moment left_since only_now store shards old new slot was_cancelled v number now standing there.store_stays flow.0 flow.1 later there
      v.holds.way refl v.holds.decided refl v.write refl there.slots
