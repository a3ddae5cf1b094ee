-- A turn of a care in a slot of a world keeps the promise of a step.
use Rattle.std.proofs.Common.{◌≡◌, ◌≤◌, ℕ, Bool, List, [], ◌∷◌, Option, Some, None, refl, sym, ◌∙◌, ap, subst}
use Rattle.device.specs.Device.{State, left}
use Rattle.calls.specs.Asking.{MayBeMade}
use Rattle.calls.specs.declared.call.NodeCall.{NodeCall}
use Rattle.calls.specs.declared.call.NodeCall.TheVariants.{Coordinator, Shard}
use Rattle.calls.specs.declared.progress.Progress.{Progress}
use Rattle.calls.specs.declared.progress.Progress.TheVariants as made
use Rattle.calls.specs.declared.reply.Reply.{Reply}
use Rattle.care_flow.specs.Cares.{Answered, IsThere, MakesCare, end_of, while_out}
use Rattle.care_flow.specs.Views.{GoesOrEnds}
use Rattle.care_flow.specs.declared.care.CareCall.{CareCall}
use Rattle.care_flow.specs.declared.care.CareFlow.{CareFlow}
use Rattle.care_flow.specs.declared.end.CareEnd.{CareEnd}
use Rattle.care_flow.specs.declared.end.CareEnd.TheVariants as care_ends
use Rattle.care_flow.proofs.Fitting.{there_given, there_next}
use Rattle.laws.specs.Nodes as nodes
use Rattle.stores.specs.Stores.{FlowView, Store}
use Rattle.flow_turns.specs.StoreCalls.{called}
use Rattle.flow_turns.specs.CareTurns.{in_slot, shows as shows_care, tells}
use Rattle.flow_turns.proofs.AnyCare.{cares_turn}
use Rattle.cluster.specs.Ends.{TellsCare}
use Rattle.cluster.specs.Steps.{GoesOn, IsMade, LeavesSlot}
use Rattle.cluster.specs.Turns.{TurnsCare}
use Rattle.cluster.specs.Worlds.{WorldView, flow_at}
use Rattle.cluster.specs.declared.event.What.{What}
use Rattle.cluster.specs.declared.flow.Flow.{Flow}
use Rattle.cluster.specs.declared.flow.Flow.TheVariants.{Care}
use Rattle.cluster.specs.declared.step.Step.TheVariants.{Turn}
use Rattle.headline.specs.Promised.{Keeps}
use Rattle.headline.specs.Shown.{IsShownSlot, Shows}
use Rattle.headline.specs.Told.{all_told}
use Rattle.headline.proofs.Leaving.{others_after}
use Rattle.headline.proofs.Lifts.{keeps_turn, never_away, shown_there}

-- the node of a call that may be made is there
pub made_there : (shards : ℕ) (call : NodeCall) → MayBeMade shards call → nodes.IsThere shards (called call)
made_there shards (Coordinator call) may = tt
made_there shards (Shard s call) may = may.0

-- what is told of its end
end_told : (end : CareEnd) (told : Option What) → TellsCare end told → all_told told ≡ tells (Some end) ∷ []
end_told care_ends.Done told is = ap all_told is
end_told (care_ends.Resolved found) told is = ap all_told is
end_told (care_ends.Refused e) told is = ap all_told is

-- after its turn it stands in its slot or has left it, as is told
module _ (shards : ℕ) (old : List (Option Flow)) (slot : ℕ) (told : Option What) (new : List (Option Flow)) where
  abbrev IsLeft : CareFlow → Option CareEnd → Type 0
  IsLeft last end = IsShownSlot shards (flow_at new slot) (in_slot (shows_care last) end) × (all_told told ≡ tells end ∷ [])

  is_left : (out : CareCall) (reply : Reply) (turned : Progress CareFlow CareEnd) (after : Progress Flow (Option What)) → IsThere shards (while_out out) → MakesCare out reply turned → IsMade Care TellsCare turned after
      → LeavesSlot old slot after told new → (last : CareFlow) × Answered (while_out out) reply last × IsLeft last (end_of last)
  is_left out reply (made.Next later) (made.Next flow) there given is_made left =
      let on = subst (λ (f : Flow). GoesOn old slot f told new) is_made left in
      let waits : end_of later ≡ None = subst (λ (b : Bool). GoesOrEnds b (end_of later)) on.named.1 given.1 in (
        later,
        given.0,
        subst (IsLeft later) (sym waits) (
          subst (λ (f : Option Flow). IsShownSlot shards f (Some (shows_care later))) (sym on.puts.at) (refl, there_given shards (while_out out) later reply given.0 there),
          ap all_told on.tells,
        ),
      )
  is_left out reply (made.Ended end) (made.Ended told_end) there (last, given, over) is_made left = (
    last,
    given.0,
    subst (IsLeft last) (sym over.end_is) (subst (λ (f : Option Flow). IsShownSlot shards f None) (sym left.0.at) tt, ap all_told left.1 ∙ end_told end told_end is_made),
  )
  is_left out reply (made.Next later) (made.Ended told_end) there given is_made left = absurd is_made
  is_left out reply (made.Ended end) (made.Next flow) there given is_made left = absurd is_made

module _ {D : Type 0} (state : D → State) (honest : D → Type 0) (moment : D → ℕ) (left_since : D → ℕ → List ℕ → Type 0)
    (counts_now : (d : D) (t : ℕ) (c : List ℕ) → honest d → t ≤ moment d → left (state d) c → left_since d t c) (only_now : (d : D) (c : List ℕ) → honest d → left_since d (moment d) c → left (state d) c)
    (old new : WorldView D) (s : Store D) (shows : Shows old s) (slot : ℕ) (told : Option What) where
  pub care_turns : (flow : CareFlow) (turned : Progress CareFlow CareEnd) (after : Progress Flow (Option What)) → flow_at old.flows slot ≡ Some (Care flow) → TurnsCare state honest moment left_since old.shards old.nodes flow new.nodes turned
      → IsMade Care TellsCare turned after → LeavesSlot old.flows slot after told new.flows → new ≡ record old { nodes = new.nodes; flows = new.flows } → Keeps state honest moment left_since old s (Turn slot) told new
  care_turns flow turned after here t is_made left new_is =
      let is = shown_there old.shards (Care flow) (s.flows slot) (subst (λ (f : Option Flow). IsShownSlot old.shards f (s.flows slot)) here (shows.flows slot)) in
      let there = is.2.1 in
      let out = while_out t.out in
      let (next, gives, left_so) = is_left old.shards old.flows slot told new.flows t.out t.reply turned after (there_next old.shards flow out (Some t.call) t.asked.1 there) t.given is_made left in
      keeps_turn state honest moment left_since old s shows new slot told t.call t.reply (shows_care flow) (in_slot (shows_care next) (end_of next)) (tells (end_of next) ∷ [])
      (is.1 ∙ ap (λ (v : FlowView). Some v) is.2.0) t.called new_is left_so.0 (others_after old.flows slot after told new.flows left) left_so.1
      (never_away state honest moment left_since old s shows new slot t.call t.reply (in_slot (shows_care next) (end_of next)) (tells (end_of next) ∷ []) (λ now standing. made_there old.shards t.call (t.asked.2 old.shards there)))
      (λ later was node answered called_is turns. cares_turn state honest moment left_since counts_now only_now old.store old.shards flow next s later slot (record {
        there = there;
        call = t.call;
        out = out;
        asks = t.asked.1;
        fits = t.fits;
        was = was;
        is = node;
        called_is = called_is;
        reply = t.reply;
        answers = answered;
        gives = gives;
        turns = turns;
      }))
