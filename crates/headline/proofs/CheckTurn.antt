-- A turn of a check in a slot of a world keeps the promise of a step.
use Rattle.std.proofs.Common.{◌≡◌, ◌≤◌, ℕ, List, [], ◌∷◌, Option, Some, None, sym, ◌∙◌, ap, subst}
use Rattle.device.specs.Device.{State, left}
use Rattle.tuples.specs.declared.object.Userset.{Userset}
use Rattle.calls.specs.Asking.{MayBeMade}
use Rattle.calls.specs.declared.progress.Progress.{Progress}
use Rattle.calls.specs.declared.progress.Progress.TheVariants as made
use Rattle.answer_flow.specs.CheckViews as check_views
use Rattle.answer_flow.specs.CheckViews.{CheckCallValue, CheckEnding, CheckFlowValue, CheckView, ending_of, seen_after, seen_out}
use Rattle.answer_flow.specs.declared.check_phase.CheckDone.{CheckDone}
use Rattle.stores.specs.Flows.{Asked, IsAsked, checking}
use Rattle.stores.specs.Stores.{FlowView, Store}
use Rattle.flow_turns.specs.AnswerTurns.{shown_answer}
use Rattle.flow_turns.specs.CheckTurns.{check_in_slot, check_of, check_tells}
use Rattle.flow_turns.proofs.ChecksTurn.{checks_turn}
use Rattle.cluster.specs.Ends.{TellsCheck}
use Rattle.answer_flow.specs.Running.{GivesCheck}
use Rattle.cluster.specs.Steps.{GoesOn, IsMade, LeavesSlot}
use Rattle.cluster.specs.Turns.{TurnsCheck}
use Rattle.cluster.specs.Worlds.{WorldView, flow_at}
use Rattle.cluster.specs.declared.event.What.{What}
use Rattle.cluster.specs.declared.flow.Flow.{Flow}
use Rattle.cluster.specs.declared.flow.Flow.TheVariants.{Check}
use Rattle.cluster.specs.declared.step.Step.TheVariants.{Turn}
use Rattle.headline.specs.Promised.{Keeps}
use Rattle.headline.specs.Shown.{IsShownSlot, Shows}
use Rattle.headline.specs.Told.{all_told}
use Rattle.headline.proofs.CareTurn.{made_there}
use Rattle.headline.proofs.Leaving.{others_after}
use Rattle.headline.proofs.Lifts.{keeps_turn, never_away, shown_there}

-- what is told of its end
end_told : (end : CheckEnding) (told : Option What) → TellsCheck end told → all_told told ≡ check_tells (Some end) ∷ []
end_told (check_views.checked place is_member) told is = ap all_told is
end_told (check_views.refused e) told is = ap all_told is

-- after its turn it stands in its slot or has left it, as is told
module _ (shards : ℕ) (x : Userset) (v : CheckFlowValue) (of : v.shards ≡ shards) (asked : IsAsked shards (check_of x v)) (old : List (Option Flow)) (slot : ℕ) (told : Option What) (new : List (Option Flow)) where
  abbrev IsLeft : CheckView → Type 0
  IsLeft seen = IsShownSlot shards (flow_at new slot) (check_in_slot (check_of x v) seen seen.ended) × (all_told told ≡ check_tells seen.ended ∷ [])

  is_left : (turned : Progress CheckFlowValue CheckDone) (after : Progress Flow (Option What)) → check_views.IsAsked v.shards v.fresh v.user turned → IsMade Check (λ done. TellsCheck (ending_of done.end)) turned after
      → LeavesSlot old slot after told new → IsLeft (seen_after turned)
  is_left (made.Next w) (made.Next flow) same is_made left =
      let same_check : check_of x w ≡ check_of x v = ap (check_of x) same in
      let on = subst (λ (f : Flow). GoesOn old slot f told new) is_made left in (
        subst (λ (f : Option Flow). IsShownSlot shards f (Some (shown_answer (check_of x v) (checking w.holds)))) (sym on.puts.at)
            (x, ap (λ (a : Asked). shown_answer a (checking w.holds)) (sym same_check), ap (λ (f : CheckFlowValue). f.shards) same ∙ of, subst (IsAsked shards) (sym same_check) asked),
        ap all_told on.tells,
      )
  is_left (made.Ended done) (made.Ended told_end) same is_made left = (
    subst (λ (f : Option Flow). IsShownSlot shards f None) (sym left.0.at) tt,
    ap all_told left.1 ∙ end_told (ending_of done.end) told_end is_made,
  )
  is_left (made.Next w) (made.Ended told_end) same is_made left = absurd is_made
  is_left (made.Ended done) (made.Next flow) same is_made left = absurd is_made

module _ {D : Type 0} (state : D → State) (honest : D → Type 0) (moment : D → ℕ) (left_since : D → ℕ → List ℕ → Type 0)
    (counts_now : (d : D) (t : ℕ) (c : List ℕ) → honest d → t ≤ moment d → left (state d) c → left_since d t c) (only_now : (d : D) (c : List ℕ) → honest d → left_since d (moment d) c → left (state d) c)
    (old new : WorldView D) (s : Store D) (shows : Shows old s) (slot : ℕ) (told : Option What) where
  pub check_turns : (v : CheckFlowValue) (turned : Progress CheckFlowValue CheckDone) (after : Progress Flow (Option What)) → flow_at old.flows slot ≡ Some (Check v) → TurnsCheck state honest moment left_since old.shards old.nodes v new.nodes turned
      → IsMade Check (λ done. TellsCheck (ending_of done.end)) turned after → LeavesSlot old.flows slot after told new.flows → new ≡ record old { nodes = new.nodes; flows = new.flows } → Keeps state honest moment left_since old s (Turn slot) told new
  check_turns v turned after here t is_made left new_is =
      let is = shown_there old.shards (Check v) (s.flows slot) (subst (λ (f : Option Flow). IsShownSlot old.shards f (s.flows slot)) here (shows.flows slot)) in
      let x = is.2.0 in
      let given : GivesCheck (record { shards = v.shards; fresh = v.fresh; user = v.user; step = t.out.step; awaited = t.out.awaited; holds = t.out.holds }) t.reply turned = subst (λ (o : CheckCallValue). GivesCheck o t.reply turned) t.asked.1 t.given in
      let seen = seen_after turned in
      let left_so = is_left old.shards x v is.2.2 is.2.3 old.flows slot told new.flows turned after given.0 is_made left in
      keeps_turn state honest moment left_since old s shows new slot told t.call t.reply (shown_answer (check_of x v) (checking v.holds)) (check_in_slot (check_of x v) seen seen.ended) (check_tells seen.ended ∷ [])
      (is.1 ∙ ap (λ (y : FlowView). Some y) is.2.1) t.called new_is left_so.0 (others_after old.flows slot after told new.flows left) left_so.1
      (never_away state honest moment left_since old s shows new slot t.call t.reply (check_in_slot (check_of x v) seen seen.ended) (check_tells seen.ended ∷ []) (λ now standing. made_there old.shards t.call (subst (λ (n : ℕ). MayBeMade n t.call) is.2.2 t.asked.2.owed)))
      (λ later was node answered_so called_is turns. checks_turn state honest moment left_since counts_now only_now old.store old.shards s later slot x v seen (record {
        of_store = is.2.2;
        asked = is.2.3;
        call = t.call;
        out = seen_out t.out;
        asks = t.asked.2;
        fits = t.fits;
        was = was;
        is = node;
        called_is = called_is;
        reply = t.reply;
        answers = answered_so;
        gives = given.1;
        turns = turns;
      }))
