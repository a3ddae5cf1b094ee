-- Where a turn leads a care, as its view says it: it goes on, or has ended.
use Rattle.std.proofs.Common.{◌≡◌, ◌≢◌, ℕ, false, List, [], ◌∷◌, Some, None, Contains, refl, sym, ◌∙◌, ap, subst}
use Rattle.std.proofs.lemmas.List.Elements.{All-nil}
use Rattle.flow_turns.proofs.CareWords.{Asked, Calls, CareEnd, Done, FailsQuietly, HasItsCause, Holds, IsQuietlyMade, IsRight, Machine, Moment, NodeName, Nodes, Refusal, Refused, Running, Runs, SlotTurns, Stands, StandsOver, State, Store, TurnRuns, Unsure, answers, behind_call, done, ending, fails_with, going_on, in_slot, over, ready, shown_care, stops, tells, the_flow, with_call}
use Rattle.care_flow.specs.Views.{CareView}
use Rattle.stores.specs.Moments.{is_write}
use Rattle.stores.specs.Replies.{Agrees, Answer}
use Rattle.stores.specs.Stores.{NamesHorizon}
use Rattle.turns.specs.Runs.{Told, Turns, answered, goes_on, told_by}
use Rattle.turns.specs.SeamLaws.{told_unless}
use Rattle.flow_turns.specs.StoreCalls.{IsMade}
use Rattle.flow_turns.proofs.Turned.{goes, held_on, ran_ending, ran_going, refused_by, runs}

module _ {D : Type 0} (state : D → State) (honest : D → Type 0) (moment : D → ℕ) (left_since : D → ℕ → List ℕ → Type 0) (store shards : ℕ) (old new : Store D) (slot : ℕ)
    (asked : Asked) (no_write : is_write asked ≡ false) {H : Type 0} (S : Type 0) (hold : H → Holds) (h : H) where
  -- in a slot after its turn, or out of it, the care tells this, and the promise of a step is kept
  abbrev pub LeadsTo : CareView H S → Type 0
  LeadsTo a = SlotTurns slot (shown_care asked (hold h)) (in_slot (shown_care asked (hold a.holds)) a.ended) old new → TurnRuns state honest moment left_since store shards old slot (tells a.ended ∷ []) new

  -- the flow of a moment for which the store stands
  pub record IsFlow (now : Moment) (r : Running) : Type 0 where
    pub runs : Contains now.running r
    pub asked_is : r.asked ≡ asked
    pub holds_are : r.holds ≡ hold h

  -- at each moment for which the store stands, the call was quiet, and leads to what has P
  abbrev pub Quietly : ((now : Moment) → StandsOver state honest store shards old now → Running → Nodes → Machine → Type 0) → Type 0
  Quietly P = (now : Moment) (standing : StandsOver state honest store shards old now) (r : Running) → IsFlow now r
      → (next : Nodes) × (m : Machine) × IsQuietlyMade state honest moment left_since store shards old new now standing next m × P now standing r next m

  -- it goes on with what is right, by what was so
  pub goes_to : (k : H) (step : S) → Quietly (λ now standing r next m.
      IsRight shards (stops state honest store shards new.devices) (behind_call now next m) (with_call r (hold k) r.met m) asked (hold h)
      → IsRight shards (stops state honest store shards new.devices) (behind_call now next m) (with_call r (hold k) r.met m) asked (hold k)) → LeadsTo (ready k step)
  goes_to k step quietly turns number now standing =
      let f = shown_care asked (hold h) in
      let flow = the_flow state honest moment left_since store shards old new now standing number slot f (Some (shown_care asked (hold k))) turns in
      let it = quietly now standing flow.0 (record { runs = runs state honest moment left_since store shards old new now standing number slot f (Some (shown_care asked (hold k))) turns flow.0 flow.1; asked_is = sym (flow.2.asked asked refl); holds_are = sym flow.2.holds }) in
      goes state honest moment left_since store shards old new now standing number slot f (Some (shown_care asked (hold k))) turns flow.0 flow.1 asked flow.2 refl no_write it.0 it.1 it.2 (hold k)
      (it.3 (held_on state honest moment left_since store shards old new now standing number slot f (Some (shown_care asked (hold k))) turns flow.0 flow.1 asked flow.2 refl no_write it.0 it.1 it.2 (hold h) refl (hold k))) refl

  -- at each such moment the call was quiet, and a refusal of it has its cause at the node that was called
  abbrev pub RefusedQuietly : Refusal → Type 0
  RefusedQuietly e = (now : Moment) (standing : StandsOver state honest store shards old now) (r : Running) → IsFlow now r
      → (next : Nodes) × (m : Machine) × (quiet : IsQuietlyMade state honest moment left_since store shards old new now standing next m)
      × (HasItsCause shards quiet.0.node now (ending now next m r []) r e × (e ≢ Unsure))

  -- it ends with a refusal that has its cause
  pub refuses_to : (nothing : H) (e : Refusal) → RefusedQuietly e → LeadsTo (over nothing (Refused e))
  refuses_to nothing e quietly turns number now standing =
      let f = shown_care asked (hold h) in
      let flow = the_flow state honest moment left_since store shards old new now standing number slot f None turns in
      let it = quietly now standing flow.0 (record { runs = runs state honest moment left_since store shards old new now standing number slot f None turns flow.0 flow.1; asked_is = sym (flow.2.asked asked refl); holds_are = sym flow.2.holds }) in
      refused_by state honest moment left_since store shards old new now standing number slot f None turns flow.0 flow.1 asked flow.2 refl no_write it.0 it.1 it.2 e refl it.3

  -- as when a node is away, or its flush failed
  pub fails_to : (nothing : H) (n : NodeName) (e : Refusal) → Calls shards asked (hold h) n → ((now : Moment) (standing : StandsOver state honest store shards old now) → FailsQuietly state honest moment left_since store shards old new now standing n e)
      → LeadsTo (over nothing (Refused e))
  fails_to nothing n e calls fails turns number now standing =
      let f = shown_care asked (hold h) in
      let flow = the_flow state honest moment left_since store shards old new now standing number slot f None turns in
      fails_with state honest moment left_since store shards old new now standing number slot f None turns flow.0 flow.1 asked flow.2 refl no_write n e calls refl (fails now standing)

  -- it is done
  pub done_to : (nothing : H) → Quietly (λ now standing r next m. Agrees (with_call r r.holds r.met m) (ending now next m r []) asked done) → LeadsTo (over nothing Done)
  done_to nothing quietly turns number now standing =
      let f = shown_care asked (hold h) in
      let flow = the_flow state honest moment left_since store shards old new now standing number slot f None turns in
      let it = quietly now standing flow.0 (record { runs = runs state honest moment left_since store shards old new now standing number slot f None turns flow.0 flow.1; asked_is = sym (flow.2.asked asked refl); holds_are = sym flow.2.holds }) in
      answers state honest moment left_since store shards old new now standing number slot f None turns flow.0 flow.1 asked flow.2 refl no_write it.0 it.1 it.2 done refl it.3 (All-nil _)

  -- it goes on, or is done, if the laws say the whole turn
  pub goes_by : (k : H) (step : S) → ((now : Moment) (standing : StandsOver state honest store shards old now) (r : Running) → IsFlow now r → (next : Nodes) × (m : Machine)
      × IsMade state honest moment left_since store shards old new now next m
      × Stands store shards (stops state honest store shards new.devices) (going_on now next m (with_call r (hold k) r.met m))
      × Turns shards (NamesHorizon state honest store shards old now) now r (told_unless r.is_cancelled) (going_on now next m (with_call r (hold k) r.met m))) → LeadsTo (ready k step)
  goes_by k step by_law turns number now standing =
      let f = shown_care asked (hold h) in
      let g = Some (shown_care asked (hold k)) in
      let flow = the_flow state honest moment left_since store shards old new now standing number slot f g turns in
      let is_flow : IsFlow now flow.0 = record { runs = runs state honest moment left_since store shards old new now standing number slot f g turns flow.0 flow.1; asked_is = sym (flow.2.asked asked refl); holds_are = sym flow.2.holds } in
      let it = by_law now standing flow.0 is_flow in
      let quiet = standing.stands.flows.quiet flow.0 is_flow.runs (ap is_write is_flow.asked_is ∙ no_write) in
      ran_going state honest moment left_since store shards old new now standing number slot f g turns flow.0 flow.1 it.0 it.1 (with_call flow.0 (hold k) flow.0.met it.1) (shown_care asked (hold k)) (goes_on ∷ []) it.2 refl refl
      (record { asked = flow.2.asked; still_asked = λ none. ap (λ (a : Asked). Some a) (sym is_flow.asked_is); holds = refl; cancelled = flow.2.cancelled })
      it.3
      (subst (λ (told : List Told). Turns shards (NamesHorizon state honest store shards old now) now flow.0 told (going_on now it.0 it.1 (with_call flow.0 (hold k) flow.0.met it.1))) (ap told_unless quiet.1) it.4)

  pub ends_by : (nothing : H) (end : CareEnd) (answer : Answer) → tells (Some end) ≡ answered answer → ((now : Moment) (standing : StandsOver state honest store shards old now) (r : Running) → IsFlow now r → (next : Nodes) × (m : Machine)
      × IsMade state honest moment left_since store shards old new now next m
      × Stands store shards (stops state honest store shards new.devices) (ending now next m r (told_by answer))
      × Turns shards (NamesHorizon state honest store shards old now) now r (answered answer ∷ []) (ending now next m r (told_by answer))) → LeadsTo (over nothing end)
  ends_by nothing end answer tells_it by_law turns number now standing =
      let f = shown_care asked (hold h) in
      let flow = the_flow state honest moment left_since store shards old new now standing number slot f None turns in
      let is_flow : IsFlow now flow.0 = record { runs = runs state honest moment left_since store shards old new now standing number slot f None turns flow.0 flow.1; asked_is = sym (flow.2.asked asked refl); holds_are = sym flow.2.holds } in
      let it = by_law now standing flow.0 is_flow in
      subst (λ (t : Told). Runs state honest moment left_since store shards old new now standing number slot f None turns (t ∷ [])) (sym tells_it)
      (ran_ending state honest moment left_since store shards old new now standing number slot f None turns flow.0 flow.1 it.0 it.1 (told_by answer) (answered answer ∷ []) it.2 refl it.3 it.4)
