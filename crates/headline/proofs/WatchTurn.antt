-- A turn of a watch in a slot of a world keeps the promise of a step.
use Rattle.std.proofs.Common.{◌≡◌, ◌≤◌, ℕ, List, [], ◌∷◌, Option, Some, None, sym, ◌∙◌, ap, subst}
use Rattle.device.specs.Device.{State, left}
use Rattle.tuples.specs.Watching.{Placed}
use Rattle.calls.specs.declared.progress.Progress.{Progress}
use Rattle.calls.specs.declared.progress.Progress.TheVariants as made
use Rattle.answer_flow.specs.WatchViews as watch_views
use Rattle.answer_flow.specs.WatchViews.{WatchCallValue, WatchEnding, WatchFlowValue, WatchView, ending_of, seen_after, seen_out}
use Rattle.answer_flow.specs.declared.watch_phase.WatchEnd.{WatchEnd}
use Rattle.stores.specs.Flows.{Asked, IsAsked, watching}
use Rattle.stores.specs.Replies.{listed}
use Rattle.stores.specs.Stores.{FlowView, Store}
use Rattle.turns.specs.Runs.{answered}
use Rattle.flow_turns.specs.AnswerTurns.{asked_of, shown_answer, watch_in_slot, watch_tells}
use Rattle.flow_turns.proofs.Watches.{watches_turn}
use Rattle.cluster.specs.Ends.{TellsWatch}
use Rattle.answer_flow.specs.Running.{GivesWatch}
use Rattle.cluster.specs.Steps.{GoesOn, IsMade, LeavesSlot}
use Rattle.cluster.specs.Turns.{TurnsWatch}
use Rattle.cluster.specs.Worlds.{WorldView, flow_at}
use Rattle.cluster.specs.declared.event.Answer.TheVariants.{Listed}
use Rattle.cluster.specs.declared.event.What.{What}
use Rattle.cluster.specs.declared.event.What.TheVariants.{Ended}
use Rattle.cluster.specs.declared.flow.Flow.{Flow}
use Rattle.cluster.specs.declared.flow.Flow.TheVariants.{Watch}
use Rattle.cluster.specs.declared.step.Step.TheVariants.{Turn}
use Rattle.headline.specs.Promised.{Keeps}
use Rattle.headline.specs.Shown.{IsShownSlot, Shows}
use Rattle.headline.specs.Told.{all_told}
use Rattle.headline.proofs.CareTurn.{made_there}
use Rattle.headline.proofs.Leaving.{others_after}
use Rattle.headline.proofs.Lifts.{keeps_turn, never_away, shown_there}

-- what is told of its end
end_told : (end : WatchEnding) (told : Option What) → TellsWatch end told → all_told told ≡ watch_tells (Some end) ∷ []
end_told (watch_views.listed place events) (Some (Ended (Listed at all))) is =
    ap (λ (n : ℕ). answered (listed n all.items) ∷ []) is.0 ∙ ap (λ (es : List Placed). answered (listed place es) ∷ []) is.1
end_told (watch_views.refused e) told is = ap all_told is
end_told (watch_views.listed place events) told is = absurd is

-- after its turn it stands in its slot or has left it, as is told
module _ (shards : ℕ) (v : WatchFlowValue) (asked : IsAsked shards (asked_of v)) (old : List (Option Flow)) (slot : ℕ) (told : Option What) (new : List (Option Flow)) where
  abbrev IsLeft : WatchView → Type 0
  IsLeft seen = IsShownSlot shards (flow_at new slot) (watch_in_slot (asked_of v) seen seen.ended) × (all_told told ≡ watch_tells seen.ended ∷ [])

  is_left : (turned : Progress WatchFlowValue WatchEnd) (after : Progress Flow (Option What)) → watch_views.IsAsked v.cursor v.limit v.namespaces turned → IsMade Watch (λ end. TellsWatch (ending_of end)) turned after
      → LeavesSlot old slot after told new → IsLeft (seen_after turned)
  is_left (made.Next w) (made.Next flow) same is_made left =
      let same_watch : asked_of w ≡ asked_of v = ap asked_of same in
      let on = subst (λ (f : Flow). GoesOn old slot f told new) is_made left in (
        subst (λ (f : Option Flow). IsShownSlot shards f (Some (shown_answer (asked_of v) (watching w.holds)))) (sym on.puts.at)
            (ap (λ (a : Asked). shown_answer a (watching w.holds)) (sym same_watch), subst (IsAsked shards) (sym same_watch) asked),
        ap all_told on.tells,
      )
  is_left (made.Ended end) (made.Ended told_end) same is_made left = (
    subst (λ (f : Option Flow). IsShownSlot shards f None) (sym left.0.at) tt,
    ap all_told left.1 ∙ end_told (ending_of end) told_end is_made,
  )
  is_left (made.Next w) (made.Ended told_end) same is_made left = absurd is_made
  is_left (made.Ended end) (made.Next flow) same is_made left = absurd is_made

module _ {D : Type 0} (state : D → State) (honest : D → Type 0) (moment : D → ℕ) (left_since : D → ℕ → List ℕ → Type 0)
    (counts_now : (d : D) (t : ℕ) (c : List ℕ) → honest d → t ≤ moment d → left (state d) c → left_since d t c) (only_now : (d : D) (c : List ℕ) → honest d → left_since d (moment d) c → left (state d) c)
    (old new : WorldView D) (s : Store D) (shows : Shows old s) (slot : ℕ) (told : Option What) where
  pub watch_turns : (v : WatchFlowValue) (turned : Progress WatchFlowValue WatchEnd) (after : Progress Flow (Option What)) → flow_at old.flows slot ≡ Some (Watch v) → TurnsWatch state honest moment left_since old.shards old.nodes v new.nodes turned
      → IsMade Watch (λ end. TellsWatch (ending_of end)) turned after → LeavesSlot old.flows slot after told new.flows → new ≡ record old { nodes = new.nodes; flows = new.flows } → Keeps state honest moment left_since old s (Turn slot) told new
  watch_turns v turned after here t is_made left new_is =
      let is = shown_there old.shards (Watch v) (s.flows slot) (subst (λ (f : Option Flow). IsShownSlot old.shards f (s.flows slot)) here (shows.flows slot)) in
      let given : GivesWatch (record { cursor = v.cursor; limit = v.limit; namespaces = v.namespaces; awaited = t.out.awaited; holds = t.out.holds }) t.reply turned = subst (λ (o : WatchCallValue). GivesWatch o t.reply turned) t.asked.1 t.given in
      let seen = seen_after turned in
      let left_so = is_left old.shards v is.2.1 old.flows slot told new.flows turned after given.0 is_made left in
      keeps_turn state honest moment left_since old s shows new slot told t.call t.reply (shown_answer (asked_of v) (watching v.holds)) (watch_in_slot (asked_of v) seen seen.ended) (watch_tells seen.ended ∷ [])
      (is.1 ∙ ap (λ (y : FlowView). Some y) is.2.0) t.called new_is left_so.0 (others_after old.flows slot after told new.flows left) left_so.1
      (never_away state honest moment left_since old s shows new slot t.call t.reply (watch_in_slot (asked_of v) seen seen.ended) (watch_tells seen.ended ∷ []) (λ now standing. made_there old.shards t.call (t.asked.2.owed old.shards)))
      (λ later was node answered_so called_is turns. watches_turn state honest moment left_since counts_now only_now old.store old.shards s later slot v seen (record {
        asked = is.2.1;
        call = t.call;
        out = seen_out t.out;
        asks = t.asked.2;
        was = was;
        is = node;
        called_is = called_is;
        reply = t.reply;
        answers = answered_so;
        gives = given.1;
        turns = turns;
      }))
