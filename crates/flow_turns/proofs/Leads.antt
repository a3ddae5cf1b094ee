-- Where a turn leads a flow that answers a request: it goes on, answers, or is refused.
use Rattle.std.proofs.Common.{◌≡◌, ◌≢◌, ◌≤◌, inl, ℕ, false, List, [], ◌∷◌, Some, None, All, Contains, refl, sym, subst, Ok}
use Rattle.tuples.specs.declared.entry.WriteId.{WriteId}
use Rattle.flow_turns.proofs.AnswerWords.{Answered, Asked, AsksAbove, AsksBelow, Calls, Collected, FailsQuietly, Future, HasItsCause, HeadsValue, Holds, IsCalled, IsQuietlyMade, IsRight, Machine, Moment, NoMemory, NodeName, NodeView, Nodes, Refusal, Running, SlotTurns, StandsOver, State, Store, TakesMemory, TurnRuns, Unsure, answered, behind_call, coordinator, ending, fails_with, from_coordinator, goes, heads_have_cause, heads_of, heads_told, held_on, left, of_coordinator, refused_by, refuses, runs, shown_answer, stops, the_flow, with_call}
use Rattle.calls.specs.declared.call.CoordinatorCall.TheVariants as calls
use Rattle.calls.specs.declared.reply.CoordinatorReply.TheVariants as told
use Rattle.stores.specs.Held.{IsRightVerdict}
use Rattle.stores.specs.Moments.{is_write}
use Rattle.stores.specs.Replies.{Agrees, Answer}
use Rattle.turns.specs.Runs.{Told, goes_on, told_by}
use Rattle.flow_turns.proofs.Turned.{answers}

module _ {D : Type 0} (state : D → State) (honest : D → Type 0) (moment : D → ℕ) (left_since : D → ℕ → List ℕ → Type 0) (store shards : ℕ) (old new : Store D) (slot : ℕ)
    (asked : Asked) (no_write : is_write asked ≡ false) (holds : Holds) where
  -- it goes on with this in its hands
  abbrev pub GoesOn : Holds → Type 0
  GoesOn k = SlotTurns slot (shown_answer asked holds) (Some (shown_answer asked k)) old new → TurnRuns state honest moment left_since store shards old slot (goes_on ∷ []) new

  -- or ends, and tells this
  abbrev pub EndsBy : Told → Type 0
  EndsBy told = SlotTurns slot (shown_answer asked holds) None old new → TurnRuns state honest moment left_since store shards old slot (told ∷ []) new

  -- the flow of a moment for which the store stands
  pub record IsFlow (now : Moment) (r : Running) : Type 0 where
    pub runs : Contains now.running r
    pub asked_is : r.asked ≡ asked
    pub holds_are : r.holds ≡ holds

  -- at each moment for which the store stands, the call was quiet, and leads to what has P
  abbrev pub Quietly : ((now : Moment) → StandsOver state honest store shards old now → Running → Nodes → Machine → Type 0) → Type 0
  Quietly P = (now : Moment) (standing : StandsOver state honest store shards old now) (r : Running) → IsFlow now r
      → (next : Nodes) × (m : Machine) × IsQuietlyMade state honest moment left_since store shards old new now standing next m × P now standing r next m

  -- what the flow held is right
  pub held_now : (now : Moment) → StandsOver state honest store shards old now → (r : Running) → IsFlow now r → IsRight shards (stops state honest store shards old.devices) now r asked holds
  held_now now standing r flow = subst (λ (a : Asked). IsRight shards (stops state honest store shards old.devices) now r a holds) flow.asked_is
      (subst (λ (x : Holds). IsRight shards (stops state honest store shards old.devices) now r r.asked x) flow.holds_are (standing.stands.flows.held r flow.runs))

  -- what is held is right after the call, and has seen the machine there
  abbrev pub IsRightBehind : Running → Moment → Nodes → Machine → Holds → Holds → Type 0
  IsRightBehind r now next m x k = IsRight shards (stops state honest store shards new.devices) (behind_call now next m) (with_call r x r.met m) asked k

  -- so it is of this, by what was held
  abbrev pub ComesRight : Holds → Type 0
  ComesRight k = Quietly (λ now standing r next m. (x : Holds) → IsRightBehind r now next m x holds → IsRightBehind r now next m x k)

  pub goes_to : (k : Holds) → ComesRight k → GoesOn k
  goes_to k quietly turns number now standing =
      let f = shown_answer asked holds in
      let g = Some (shown_answer asked k) in
      let flow = the_flow state honest moment left_since store shards old new now standing number slot f g turns in
      let is_flow : IsFlow now flow.0 = record { runs = runs state honest moment left_since store shards old new now standing number slot f g turns flow.0 flow.1; asked_is = sym (flow.2.asked asked refl); holds_are = sym flow.2.holds } in
      let it = quietly now standing flow.0 is_flow in
      goes state honest moment left_since store shards old new now standing number slot f g turns flow.0 flow.1 asked flow.2 refl no_write it.0 it.1 it.2 k
      (it.3 k (held_on state honest moment left_since store shards old new now standing number slot f g turns flow.0 flow.1 asked flow.2 refl no_write it.0 it.1 it.2 holds refl k)) refl

  -- it ends with an answer that agrees, by what is right then
  pub answers_to : (answer : Answer) → ((P : WriteId → Type 0) → All P (told_by answer))
      → Quietly (λ now standing r next m. IsRightBehind r now next m r.holds holds → Agrees (with_call r r.holds r.met m) (ending now next m r (told_by answer)) asked answer) → EndsBy (answered answer)
  answers_to answer none quietly turns number now standing =
      let f = shown_answer asked holds in
      let flow = the_flow state honest moment left_since store shards old new now standing number slot f None turns in
      let is_flow : IsFlow now flow.0 = record { runs = runs state honest moment left_since store shards old new now standing number slot f None turns flow.0 flow.1; asked_is = sym (flow.2.asked asked refl); holds_are = sym flow.2.holds } in
      let it = quietly now standing flow.0 is_flow in
      answers state honest moment left_since store shards old new now standing number slot f None turns flow.0 flow.1 asked flow.2 refl no_write it.0 it.1 it.2 answer refl
      (it.3 (held_on state honest moment left_since store shards old new now standing number slot f None turns flow.0 flow.1 asked flow.2 refl no_write it.0 it.1 it.2 holds refl flow.0.holds))
      (none (IsRightVerdict shards (stops state honest store shards new.devices) (behind_call now it.0 it.1)))

  -- at each such moment the call was quiet, and a refusal of it has its cause at the node that was called
  abbrev pub RefusedQuietly : Refusal → Type 0
  RefusedQuietly e = (now : Moment) (standing : StandsOver state honest store shards old now) (r : Running) → IsFlow now r
      → (next : Nodes) × (m : Machine) × (quiet : IsQuietlyMade state honest moment left_since store shards old new now standing next m)
      × (HasItsCause shards quiet.0.node now (ending now next m r []) r e × (e ≢ Unsure))

  -- or with a refusal that has its cause
  pub refuses_to : (e : Refusal) → RefusedQuietly e → EndsBy (refuses e)
  refuses_to e quietly turns number now standing =
      let f = shown_answer asked holds in
      let flow = the_flow state honest moment left_since store shards old new now standing number slot f None turns in
      let is_flow : IsFlow now flow.0 = record { runs = runs state honest moment left_since store shards old new now standing number slot f None turns flow.0 flow.1; asked_is = sym (flow.2.asked asked refl); holds_are = sym flow.2.holds } in
      let it = quietly now standing flow.0 is_flow in
      refused_by state honest moment left_since store shards old new now standing number slot f None turns flow.0 flow.1 asked flow.2 refl no_write it.0 it.1 it.2 e refl it.3

  -- as when memory was refused, to a flow that takes some
  pub lacks_memory : TakesMemory asked → Quietly (λ now standing r next m. Unit {0}) → EndsBy (refuses NoMemory)
  lacks_memory takes quietly = refuses_to NoMemory (λ now standing r flow. let it = quietly now standing r flow in (it.0, it.1, it.2, (inl (subst TakesMemory (sym flow.asked_is) takes), not_unsure)))
    where
      not_unsure : NoMemory ≢ Unsure
      not_unsure same = cc

  -- or if a node is away, or its flush failed
  pub fails_to : (n : NodeName) (e : Refusal) → Calls shards asked holds n → ((now : Moment) (standing : StandsOver state honest store shards old now) → FailsQuietly state honest moment left_since store shards old new now standing n e)
      → EndsBy (refuses e)
  fails_to n e calls fails turns number now standing =
      let f = shown_answer asked holds in
      let flow = the_flow state honest moment left_since store shards old new now standing number slot f None turns in
      fails_with state honest moment left_since store shards old new now standing number slot f None turns flow.0 flow.1 asked flow.2 refl no_write n e calls refl (fails now standing)

  -- or if heads tell that it wants what is not kept yet, or what lies below the horizon
  module _ (counts_now : (d : D) (t : ℕ) (c : List ℕ) → honest d → t ≤ moment d → left (state d) c → left_since d t c) (only_now : (d : D) (c : List ℕ) → honest d → left_since d (moment d) c → left (state d) c)
      (was is : NodeView D) (v : HeadsValue) (c : IsCalled state honest moment left_since store shards coordinator was is old new)
      (so : Answered state honest moment left_since was (of_coordinator calls.Heads) (from_coordinator (told.Heads (Ok v))) is) where
    pub wants_future : AsksAbove v asked → (e : Refusal) → e ≡ Future → EndsBy (refuses e)
    wants_future above e is_e = refuses_to e (λ now standing r flow.
        let it = heads_told state honest moment left_since counts_now only_now store shards old new now standing was is (Ok v) c so in
        let law = heads_have_cause store shards (stops state honest store shards old.devices) D now (ending now now.nodes now.machine r []) it.1.0 r standing.stands it.1.1 in
        let cause = law.0 (subst (λ (a : Asked). AsksAbove (heads_of it.1.0) a) (sym flow.asked_is) (subst (λ (y : HeadsValue). AsksAbove y asked) it.1.2 above)) in
        (now.nodes, now.machine, it.0, subst (λ (f : Refusal). HasItsCause shards it.0.0.node now (ending now now.nodes now.machine r []) r f × (f ≢ Unsure)) (sym is_e) (inl cause, λ same. cc)))

    pub wants_collected : AsksBelow v asked → (e : Refusal) → e ≡ Collected → EndsBy (refuses e)
    wants_collected below e is_e = refuses_to e (λ now standing r flow.
        let it = heads_told state honest moment left_since counts_now only_now store shards old new now standing was is (Ok v) c so in
        let law = heads_have_cause store shards (stops state honest store shards old.devices) D now (ending now now.nodes now.machine r []) it.1.0 r standing.stands it.1.1 in
        let cause = law.1 (subst (λ (a : Asked). AsksBelow (heads_of it.1.0) a) (sym flow.asked_is) (subst (λ (y : HeadsValue). AsksBelow y asked) it.1.2 below)) in
        (now.nodes, now.machine, it.0, subst (λ (f : Refusal). HasItsCause shards it.0.0.node now (ending now now.nodes now.machine r []) r f × (f ≢ Unsure)) (sym is_e) (inl cause, λ same. cc)))
