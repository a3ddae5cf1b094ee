-- A turn of a write in a slot of a world keeps the promise of a step.
use Rattle.std.proofs.Common.{◌≡◌, ◌≤◌, ℕ, Bool, true, false, List, Option, Some, None, refl, sym, ◌∙◌, ap, subst}
use Rattle.headline.proofs.Words.{Asks, CallName, Flow, FlowView, IsShownSlot, Keeps, Reply, Shows, State, Store, Turn, What, WorldView, Write, WriteEnd, WriteView, Writing, all_told, flow_at, left, seen_of, shown_until, told_of}
use Rattle.calls.specs.declared.progress.Progress.{Progress}
use Rattle.calls.specs.declared.progress.Progress.TheVariants as made
use Rattle.commit_flow.specs.Flows.{WriteCallValue, WriteFlowValue, seen_after, seen_out}
use Rattle.commit_flow.specs.Running.{GivesWrite}
use Rattle.commit_flow.specs.declared.end.WriteEnd.TheVariants as write_ends
use Rattle.turns.specs.SeamLaws.{told_unless}
use Rattle.flow_turns.specs.WritesSeen.{shown, told_end}
use Rattle.flow_turns.proofs.AllWrites.{all_turn}
use Rattle.cluster.specs.Ends.{TellsWrite}
use Rattle.cluster.specs.Steps.{GoesOn, IsMade, LeavesSlot, TellsWriting, unless, write_of}
use Rattle.cluster.specs.Turns.{TurnsWrite}
use Rattle.cluster.specs.declared.event.What.TheVariants.{Next}
use Rattle.headline.proofs.Away.{away_writes}
use Rattle.headline.proofs.Leaving.{others_after}
use Rattle.headline.proofs.Lifts.{keeps_turn, shown_there}

-- what is told of its end, and of one that goes on
end_told : (is_cancelled : Bool) (end : WriteEnd) (told : Option What) → TellsWrite end told → all_told (unless is_cancelled told) ≡ told_end is_cancelled end
end_told true end told is = refl
end_told false (write_ends.Wrote place) told is = ap all_told is
end_told false (write_ends.Refused e) told is = ap all_told is
end_told false write_ends.Cancelled told is = ap all_told is

next_told : (is_cancelled : Bool) (name : CallName) → all_told (unless is_cancelled (Some (Next name))) ≡ told_unless is_cancelled
next_told true name = refl
next_told false name = refl

-- after its turn it stands in its slot or has left it, as is told
module _ (shards : ℕ) (is_cancelled : Bool) (old : List (Option Flow)) (slot : ℕ) (told : Option What) (new : List (Option Flow)) where
  abbrev IsLeft : WriteView → Type 0
  IsLeft seen = IsShownSlot shards (flow_at new slot) (shown_until seen.ended seen is_cancelled) × (all_told told ≡ told_of is_cancelled seen.ended)

  is_left : (out : WriteCallValue) (reply : Reply) (turned : Progress WriteFlowValue WriteEnd) (after : Progress Flow (Option What)) → out.shards ≡ shards → GivesWrite out reply turned
      → IsMade (write_of is_cancelled) (TellsWriting is_cancelled) turned after → LeavesSlot old slot after told new → IsLeft (seen_after turned)
  is_left out reply (made.Next w) (made.Next flow) of given is_made left =
      let on = subst (λ (f : Flow). GoesOn old slot f told new) is_made left in (
        subst (λ (f : Option Flow). IsShownSlot shards f (Some (shown (seen_of w) is_cancelled))) (sym on.puts.at) (refl, given.0.0 ∙ of),
        ap all_told on.tells ∙ next_told is_cancelled on.name,
      )
  is_left out reply (made.Ended end) (made.Ended told_end) of given is_made left = (
    subst (λ (f : Option Flow). IsShownSlot shards f None) (sym left.0.at) tt,
    ap all_told (left.1 ∙ is_made.2) ∙ end_told is_cancelled end is_made.0 is_made.1,
  )
  is_left out reply (made.Next w) (made.Ended told_end) of given is_made left = absurd is_made
  is_left out reply (made.Ended end) (made.Next flow) of given is_made left = absurd is_made

module _ {D : Type 0} (state : D → State) (honest : D → Type 0) (moment : D → ℕ) (left_since : D → ℕ → List ℕ → Type 0)
    (counts_now : (d : D) (t : ℕ) (c : List ℕ) → honest d → t ≤ moment d → left (state d) c → left_since d t c) (only_now : (d : D) (c : List ℕ) → honest d → left_since d (moment d) c → left (state d) c)
    (old new : WorldView D) (s : Store D) (shows : Shows old s) (slot : ℕ) (told : Option What) where
  pub write_turns : (v : Writing) (turned : Progress WriteFlowValue WriteEnd) (after : Progress Flow (Option What)) → flow_at old.flows slot ≡ Some (Write v) → TurnsWrite state honest moment left_since old.shards old.nodes v.flow new.nodes turned
      → IsMade (write_of v.is_cancelled) (TellsWriting v.is_cancelled) turned after → LeavesSlot old.flows slot after told new.flows → new ≡ record old { nodes = new.nodes; flows = new.flows } → Keeps state honest moment left_since old s (Turn slot) told new
  write_turns v turned after here t is_made left new_is =
      let is = shown_there old.shards (Write v) (s.flows slot) (subst (λ (f : Option Flow). IsShownSlot old.shards f (s.flows slot)) here (shows.flows slot)) in
      let was = seen_of v.flow in
      let mid = seen_out t.out in
      let seen = seen_after turned in
      let before : s.flows slot ≡ Some (shown was v.is_cancelled) = is.1 ∙ ap (λ (y : FlowView). Some y) is.2.0 in
      let asks : Asks old.shards was t.call mid = subst (λ (n : ℕ). Asks n was t.call mid) is.2.1 t.asked.2 in
      let left_so = is_left old.shards v.is_cancelled old.flows slot told new.flows t.out t.reply turned after (t.asked.1 ∙ is.2.1) t.given is_made left in
      keeps_turn state honest moment left_since old s shows new slot told t.call t.reply (shown was v.is_cancelled) (shown_until seen.ended seen v.is_cancelled) (told_of v.is_cancelled seen.ended)
      before t.called new_is left_so.0 (others_after old.flows slot after told new.flows left) left_so.1
      (away_writes state honest moment left_since counts_now only_now old new s shows slot v.is_cancelled was mid seen before t.call t.reply asks t.given.1)
      (λ later node_was node answered called_is turns. all_turn state honest moment left_since counts_now only_now old.store old.shards t.call s later slot v.is_cancelled was seen (record {
        some = shows.some;
        mid = mid;
        asks = asks;
        fits = t.fits;
        whole = t.whole;
        was = node_was;
        is = node;
        reply = t.reply;
        answered = answered;
        node = called_is;
        gives = t.given.1;
        slots = turns;
      }))
