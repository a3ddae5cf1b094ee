-- A turn of a read in a slot of a world keeps the promise of a step.
use Rattle.std.proofs.Common.{◌≡◌, ◌≤◌, ℕ, List, [], ◌∷◌, Option, Some, None, sym, ◌∙◌, ap, subst}
use Rattle.device.specs.Device.{State, left}
use Rattle.tuples.specs.declared.tuple.Tuple.{Tuple}
use Rattle.calls.specs.Asking.{MayBeMade}
use Rattle.calls.specs.declared.progress.Progress.{Progress}
use Rattle.calls.specs.declared.progress.Progress.TheVariants as made
use Rattle.answer_flow.specs.ReadViews as read_views
use Rattle.answer_flow.specs.ReadViews.{ReadCallValue, ReadEnding, ReadFlowValue, ReadView, ending_of, rows_of, seen_after, seen_out}
use Rattle.answer_flow.specs.declared.read_phase.ReadDone.{ReadDone}
use Rattle.stores.specs.Flows.{Asked, IsAsked, reading}
use Rattle.stores.specs.Replies.{selected}
use Rattle.stores.specs.Stores.{FlowView, Store}
use Rattle.turns.specs.Runs.{answered}
use Rattle.flow_turns.specs.AnswerTurns.{shown_answer}
use Rattle.flow_turns.specs.ReadTurns.{read_in_slot, read_of, read_tells}
use Rattle.flow_turns.proofs.ReadsTurn.{reads_turn}
use Rattle.cluster.specs.Ends.{TellsRead}
use Rattle.answer_flow.specs.Running.{GivesRead}
use Rattle.cluster.specs.Steps.{GoesOn, IsMade, LeavesSlot}
use Rattle.cluster.specs.Turns.{TurnsRead}
use Rattle.cluster.specs.Worlds.{WorldView, flow_at}
use Rattle.cluster.specs.declared.event.Answer.TheVariants.{Selected}
use Rattle.cluster.specs.declared.event.What.{What}
use Rattle.cluster.specs.declared.event.What.TheVariants.{Ended}
use Rattle.cluster.specs.declared.flow.Flow.{Flow}
use Rattle.cluster.specs.declared.flow.Flow.TheVariants.{Read}
use Rattle.cluster.specs.declared.step.Step.TheVariants.{Turn}
use Rattle.headline.specs.Promised.{Keeps}
use Rattle.headline.specs.Shown.{IsShownSlot, Shows}
use Rattle.headline.specs.Told.{all_told}
use Rattle.headline.proofs.CareTurn.{made_there}
use Rattle.headline.proofs.Leaving.{others_after}
use Rattle.headline.proofs.Lifts.{keeps_turn, never_away, shown_there}

-- what is told of its end
end_told : (end : ReadEnding) (told : Option What) → TellsRead end told → all_told told ≡ read_tells (Some end) ∷ []
end_told (read_views.selected place rows) (Some (Ended (Selected at sets))) is =
    ap (λ (n : ℕ). answered (selected n (rows_of sets.items)) ∷ []) is.0 ∙ ap (λ (rs : List (List Tuple)). answered (selected place rs) ∷ []) is.1
end_told (read_views.refused e) told is = ap all_told is
end_told (read_views.selected place rows) told is = absurd is

-- after its turn it stands in its slot or has left it, as is told
module _ (shards : ℕ) (v : ReadFlowValue) (of : v.shards ≡ shards) (asked : IsAsked shards (read_of v)) (old : List (Option Flow)) (slot : ℕ) (told : Option What) (new : List (Option Flow)) where
  abbrev IsLeft : ReadView → Type 0
  IsLeft seen = IsShownSlot shards (flow_at new slot) (read_in_slot (read_of v) seen seen.ended) × (all_told told ≡ read_tells seen.ended ∷ [])

  is_left : (turned : Progress ReadFlowValue ReadDone) (after : Progress Flow (Option What)) → read_views.IsAsked v.shards v.fresh v.sets turned → IsMade Read (λ done. TellsRead (ending_of done.end)) turned after
      → LeavesSlot old slot after told new → IsLeft (seen_after turned)
  is_left (made.Next w) (made.Next flow) same is_made left =
      let same_read : read_of w ≡ read_of v = ap read_of same in
      let on = subst (λ (f : Flow). GoesOn old slot f told new) is_made left in (
        subst (λ (f : Option Flow). IsShownSlot shards f (Some (shown_answer (read_of v) (reading w.holds)))) (sym on.puts.at)
            (ap (λ (a : Asked). shown_answer a (reading w.holds)) (sym same_read), ap (λ (f : ReadFlowValue). f.shards) same ∙ of, subst (IsAsked shards) (sym same_read) asked),
        ap all_told on.tells,
      )
  is_left (made.Ended done) (made.Ended told_end) same is_made left = (
    subst (λ (f : Option Flow). IsShownSlot shards f None) (sym left.0.at) tt,
    ap all_told left.1 ∙ end_told (ending_of done.end) told_end is_made,
  )
  is_left (made.Next w) (made.Ended told_end) same is_made left = absurd is_made
  is_left (made.Ended done) (made.Next flow) same is_made left = absurd is_made

module _ {D : Type 0} (state : D → State) (honest : D → Type 0) (moment : D → ℕ) (left_since : D → ℕ → List ℕ → Type 0)
    (counts_now : (d : D) (t : ℕ) (c : List ℕ) → honest d → t ≤ moment d → left (state d) c → left_since d t c) (only_now : (d : D) (c : List ℕ) → honest d → left_since d (moment d) c → left (state d) c)
    (old new : WorldView D) (s : Store D) (shows : Shows old s) (slot : ℕ) (told : Option What) where
  pub read_turns : (v : ReadFlowValue) (turned : Progress ReadFlowValue ReadDone) (after : Progress Flow (Option What)) → flow_at old.flows slot ≡ Some (Read v) → TurnsRead state honest moment left_since old.shards old.nodes v new.nodes turned
      → IsMade Read (λ done. TellsRead (ending_of done.end)) turned after → LeavesSlot old.flows slot after told new.flows → new ≡ record old { nodes = new.nodes; flows = new.flows } → Keeps state honest moment left_since old s (Turn slot) told new
  read_turns v turned after here t is_made left new_is =
      let is = shown_there old.shards (Read v) (s.flows slot) (subst (λ (f : Option Flow). IsShownSlot old.shards f (s.flows slot)) here (shows.flows slot)) in
      let given : GivesRead (record { shards = v.shards; fresh = v.fresh; sets = v.sets; step = t.out.step; awaited = t.out.awaited; holds = t.out.holds }) t.reply turned = subst (λ (o : ReadCallValue). GivesRead o t.reply turned) t.asked.1 t.given in
      let seen = seen_after turned in
      let left_so = is_left old.shards v is.2.1 is.2.2 old.flows slot told new.flows turned after given.0 is_made left in
      keeps_turn state honest moment left_since old s shows new slot told t.call t.reply (shown_answer (read_of v) (reading v.holds)) (read_in_slot (read_of v) seen seen.ended) (read_tells seen.ended ∷ [])
      (is.1 ∙ ap (λ (x : FlowView). Some x) is.2.0) t.called new_is left_so.0 (others_after old.flows slot after told new.flows left) left_so.1
      (never_away state honest moment left_since old s shows new slot t.call t.reply (read_in_slot (read_of v) seen seen.ended) (read_tells seen.ended ∷ []) (λ now standing. made_there old.shards t.call (subst (λ (n : ℕ). MayBeMade n t.call) is.2.1 t.asked.2.owed)))
      (λ later was node answered_so called_is turns. reads_turn state honest moment left_since counts_now only_now old.store old.shards s later slot v seen (record {
        of_store = is.2.1;
        asked = is.2.2;
        call = t.call;
        out = seen_out t.out;
        asks = t.asked.2;
        fits = t.fits;
        was = was;
        is = node;
        called_is = called_is;
        reply = t.reply;
        answers = answered_so;
        gives = given.1;
        turns = turns;
      }))
