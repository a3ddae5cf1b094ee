-- A turn of a flow other than a write, after a quiet call, keeps the promise of a step.
use Rattle.std.proofs.Common.{◌≡◌, ◌≢◌, inl, ⊎_elim, ◌==◌, ℕ, false, true≢false, List, [], ◌∷◌, ◌++◌, Option, Some, None, All, Contains, refl, sym, ◌∙◌, ap, subst}
use Rattle.std.proofs.lemmas.Bool.{cases_Bool, eq-eqb, eqb-true}
use Rattle.std.proofs.lemmas.Option.{same_Some}
use Rattle.flow_turns.proofs.CallWords.{Agrees, Answer, Asked, Calls, FlowView, HasItsCause, Holds, IfRunning, IsMade, IsRight, IsRightVerdict, Machine, Moment, NamesHorizon, NodeName, Nodes, Ran, Record, Refusal, Running, ShowsFlow, ShowsSlot, Stands, StandsOver, State, Store, Unsure, WriteId, answered, behind_call, ended, ending, events_of, flow_at, goes_on, is_write, refuses, replaced, restart, stops, to_raise, to_write, told_by, with_call}
use Rattle.stores.specs.Flows.{checking, collecting, flushing, id_of, learning, raising, reading, resolving, to_check, to_collect, to_flush, to_learn, to_read, to_resolve, to_watch, watching, writing}
use Rattle.turns.specs.QuietTurns.{going_on}
use Rattle.turns.specs.Runs.{Told, Turns, turn}
use Rattle.turns.specs.SeamLaws.{told_unless}
use Rattle.turns.proofs.CoordinatorTurns.{seen_on}
use Rattle.turns.proofs.QuietTurns.{calls_on, quiet_calls_answer, quiet_calls_turn, refused_flows_end}
use Rattle.flow_turns.specs.StoreTurns.{SlotTurns}
use Rattle.flow_turns.proofs.Made.{FailsQuietly, IsQuietlyMade, after}
use Rattle.flow_turns.proofs.Slots.{at_ended, at_replaced, elsewhere_ended, elsewhere_replaced, found_at}

-- a flow other than a write has none
pub no_id : (shards : ℕ) (left : NodeName → List Record → Type 0) (now : Moment) (r : Running) (asked : Asked) (holds : Holds) → IsRight shards left now r asked holds → is_write asked ≡ false → id_of holds ≡ None
no_id shards left now r (to_write changes conditions) (writing h) k plain = absurd (true≢false plain)
no_id shards left now r (to_read fresh sets) (reading h) k plain = refl
no_id shards left now r (to_check fresh x u) (checking h) k plain = refl
no_id shards left now r (to_watch c limit names) (watching h) k plain = refl
no_id shards left now r (to_flush n) flushing k plain = refl
no_id shards left now r (to_learn s) (learning h) k plain = refl
no_id shards left now r (to_resolve s) (resolving h) k plain = refl
no_id shards left now r (to_raise x) (raising h) k plain = refl
no_id shards left now r (to_collect s) (collecting h) k plain = refl
no_id shards left now r asked holds k plain = absurd k

module _ {D : Type 0} (state : D → State) (honest : D → Type 0) (moment : D → ℕ) (left_since : D → ℕ → List ℕ → Type 0) (store shards : ℕ) (old new : Store D) (now : Moment)
    (standing : StandsOver state honest store shards old now) (number slot : ℕ) (f : FlowView) (g : Option FlowView) (turns : SlotTurns slot f g old new) where
  -- the flow of the moment that is shown so
  pub the_flow : (r : Running) × (flow_at slot now.running ≡ Some r) × ShowsFlow r f
  the_flow = by_slot (flow_at slot now.running) (old.flows slot) refl turns.before (standing.flows slot)
    where
      by_slot : (o : Option Running) (v : Option FlowView) → flow_at slot now.running ≡ o → v ≡ Some f → ShowsSlot o v → (r : Running) × (flow_at slot now.running ≡ Some r) × ShowsFlow r f
      by_slot (Some r) (Some v) is same shows = (r, is, subst (ShowsFlow r) (same_Some v f same) shows)
      by_slot (Some r) None is same shows = absurd shows
      by_slot None (Some v) is same shows = absurd shows
      by_slot None None is same shows = absurd cc

  abbrev pub Runs : List Told → Type 0
  Runs told = Ran state honest moment left_since store shards old now number (turn slot) (events_of number told) new

  module _ (r : Running) (there : flow_at slot now.running ≡ Some r) where
    in_slot : r.slot ≡ slot
    in_slot = (found_at slot now.running r there).1

    pub runs : Contains now.running r
    runs = (found_at slot now.running r there).0

    -- a turn that leads to a moment for which the new store stands keeps the promise
    pub ran_to : (next : Nodes) (m : Machine) (flows : List Running) (ids : List WriteId) (told : List Told) → IsMade state honest moment left_since store shards old new now next m
        → let ran = record now { nodes = next; machine = m; running = flows; told = ids } in
        Stands store shards (stops state honest store shards new.devices) ran → Turns shards (NamesHorizon state honest store shards old now) now r told ran
        → ((k : ℕ) → ShowsSlot (flow_at k flows) (new.flows k)) → Runs told
    ran_to next m flows ids told made stands taken shows = record {
      after = record now { nodes = next; machine = m; running = flows; told = ids };
      told = told;
      takes = subst (λ (o : Option Running). IfRunning shards (NamesHorizon state honest store shards old now) (Turns shards (NamesHorizon state honest store shards old now)) o now told (record now { nodes = next; machine = m; running = flows; told = ids })) (sym there) taken;
      tells = refl;
      stands = record { sound = made.sound; nodes = made.nodes; flows = shows; stands = stands };
      named = made.named;
      fails = made.fails;
      opens = λ n is_there is. absurd (not_restart n is);
      inside = made.inside;
      given = made.given;
    }
      where
        not_restart : (n : NodeName) → turn slot ≡ restart n → ⊥
        not_restart n is = cc

    by_place : (flows : List Running) → ShowsSlot (flow_at slot flows) g → ((k : ℕ) → k ≢ slot → flow_at k flows ≡ flow_at k now.running) → (k : ℕ) → ShowsSlot (flow_at k flows) (new.flows k)
    by_place flows here others k = ⊎_elim
        (λ same. subst (λ (j : ℕ). ShowsSlot (flow_at j flows) (new.flows j)) (sym (eqb-true k slot same)) (subst (ShowsSlot (flow_at slot flows)) (sym turns.after) here))
        (λ other.
        let ne : k ≢ slot = λ is. true≢false (sym (eq-eqb k slot is) ∙ other) in
        subst (λ (o : Option Running). ShowsSlot o (new.flows k)) (sym (others k ne)) (subst (ShowsSlot (flow_at k now.running)) (sym (turns.others k ne)) (standing.flows k)))
        (cases_Bool (k == slot))

    -- the flow goes on, and is shown so
    pub shows_going : (later : Running) (v : FlowView) → later.slot ≡ r.slot → g ≡ Some v → ShowsFlow later v → (k : ℕ) → ShowsSlot (flow_at k (replaced later now.running)) (new.flows k)
    shows_going later v same is shows = by_place (replaced later now.running)
        (subst (ShowsSlot (flow_at slot (replaced later now.running))) (sym is) (subst (λ (o : Option Running). ShowsSlot o (Some v)) (sym at) shows))
        (λ k ne. elsewhere_replaced later now.running k (λ here. ne (here ∙ later_slot)))
      where
        later_slot : later.slot ≡ slot
        later_slot = same ∙ in_slot

        at : flow_at slot (replaced later now.running) ≡ Some later
        at = subst (λ (s : ℕ). flow_at s (replaced later now.running) ≡ Some later) later_slot (at_replaced later r now.running (subst (λ (s : ℕ). flow_at s now.running ≡ Some r) (sym later_slot) there))

    -- or it has ended, and its slot is free
    pub shows_ended : g ≡ None → (k : ℕ) → ShowsSlot (flow_at k (ended r.slot now.running)) (new.flows k)
    shows_ended is = by_place (ended r.slot now.running)
        (subst (ShowsSlot (flow_at slot (ended r.slot now.running))) (sym is) (subst (λ (o : Option Running). ShowsSlot o None) (sym at) tt))
        (λ k ne. elsewhere_ended r.slot now.running k (λ here. ne (here ∙ in_slot)))
      where
        at : flow_at slot (ended r.slot now.running) ≡ None
        at = subst (λ (s : ℕ). flow_at s (ended r.slot now.running) ≡ None) in_slot (at_ended r.slot now.running standing.stands.flows.slots)

    -- what ends it, in whatever words the laws say so
    pub ran_ending : (next : Nodes) (m : Machine) (ids : List WriteId) (told : List Told) → IsMade state honest moment left_since store shards old new now next m → g ≡ None
        → Stands store shards (stops state honest store shards new.devices) (ending now next m r ids) → Turns shards (NamesHorizon state honest store shards old now) now r told (ending now next m r ids) → Runs told
    ran_ending next m ids told made gone stands taken = ran_to next m (ended r.slot now.running) (ids ++ now.told) told made stands taken (shows_ended gone)

    pub ran_going : (next : Nodes) (m : Machine) (later : Running) (v : FlowView) (told : List Told) → IsMade state honest moment left_since store shards old new now next m → later.slot ≡ r.slot → g ≡ Some v → ShowsFlow later v
        → Stands store shards (stops state honest store shards new.devices) (going_on now next m later) → Turns shards (NamesHorizon state honest store shards old now) now r told (going_on now next m later) → Runs told
    ran_going next m later v told made same goes shows stands taken = ran_to next m (replaced later now.running) now.told told made stands taken (shows_going later v same goes shows)

    -- a flow other than a write, after a quiet call
    module _ (asked : Asked) (shows : ShowsFlow r f) (asks : f.asked ≡ Some asked) (no_write : is_write asked ≡ false) (next : Nodes) (m : Machine)
        (quiet : IsQuietlyMade state honest moment left_since store shards old new now standing next m) where
      abbrev left_after : NodeName → List Record → Type 0
      left_after = after state honest moment left_since store shards old new now standing

      pub asked_is : r.asked ≡ asked
      asked_is = sym (shows.asked asked asks)

      is_no_write : is_write r.asked ≡ false
      is_no_write = ap is_write asked_is ∙ no_write

      pub not_cancelled : r.is_cancelled ≡ false
      not_cancelled = (standing.stands.flows.quiet r runs is_no_write).1

      -- what it held is still right after the call, once it has seen the machine there
      pub held_on : (h : Holds) → f.holds ≡ h → (holds : Holds) → IsRight shards left_after (behind_call now next m) (with_call r holds r.met m) asked h
      held_on h is holds = seen_on shards left_after (behind_call now next m) r holds m asked h (subst (λ (a : Asked). IsRight shards left_after (behind_call now next m) r a h) asked_is
          (subst (λ (x : Holds). IsRight shards left_after (behind_call now next m) r r.asked x) (sym shows.holds ∙ is) (quiet.0.stands.flows.held r runs)))

      -- it goes on, and holds this
      pub goes : (holds : Holds) → IsRight shards left_after (behind_call now next m) (with_call r holds r.met m) asked holds → g ≡ Some (record f { holds = holds }) → Runs (goes_on ∷ [])
      goes holds right is =
          let right_here : IsRight shards left_after (behind_call now next m) (with_call r holds r.met m) r.asked holds = subst (λ (a : Asked). IsRight shards left_after (behind_call now next m) (with_call r holds r.met m) a holds) (sym asked_is) right in
          let none : id_of holds ≡ None = no_id shards left_after (behind_call now next m) (with_call r holds r.met m) asked holds right no_write in
          let had : id_of r.holds ≡ None = no_id shards (stops state honest store shards old.devices) now r r.asked r.holds (standing.stands.flows.held r runs) is_no_write in
          let law = quiet_calls_turn store shards (stops state honest store shards old.devices) left_after now next m r holds r.met (record { call = quiet.0; running = runs; same_id = none ∙ sym had; right = right_here }) (inl refl) in
          ran_going next m (with_call r holds r.met m) (record f { holds = holds }) (goes_on ∷ []) quiet.1 refl is
          (record { asked = shows.asked; still_asked = λ id. shows.still_asked had; holds = refl; cancelled = shows.cancelled })
          law.0
          (subst (λ (told : List Told). Turns shards (NamesHorizon state honest store shards old now) now r told (going_on now next m (with_call r holds r.met m))) (ap told_unless not_cancelled) law.1)

      -- it ends with an answer that agrees
      pub answers : (answer : Answer) → g ≡ None → Agrees (with_call r r.holds r.met m) (ending now next m r (told_by answer)) asked answer
          → All (IsRightVerdict shards left_after (behind_call now next m)) (told_by answer) → Runs (answered answer ∷ [])
      answers answer gone agrees right =
          let law = quiet_calls_answer store shards (stops state honest store shards old.devices) left_after now next m r r.holds answer quiet.0 runs refl not_cancelled
          (subst (λ (a : Asked). Agrees (with_call r r.holds r.met m) (ending now next m r (told_by answer)) a answer) (sym asked_is) agrees) right in
          ran_ending next m (told_by answer) (answered answer ∷ []) quiet.1 gone law.0 law.1

      -- or with a refusal that has its cause
      pub refused_by : (e : Refusal) → g ≡ None → HasItsCause shards quiet.0.node now (ending now next m r []) r e × (e ≢ Unsure) → Runs (refuses e ∷ [])
      refused_by e gone cause =
          let law = refused_flows_end store shards (stops state honest store shards old.devices) left_after now next m r e quiet.0 runs is_no_write cause.1 cause.0 in
          ran_ending next m [] (refuses e ∷ []) quiet.1 gone law.0 law.1

    -- it asked a node whose call failed, or that is away
    pub fails_with : (asked : Asked) → ShowsFlow r f → f.asked ≡ Some asked → is_write asked ≡ false → (n : NodeName) (e : Refusal) → Calls shards asked f.holds n → g ≡ None
        → FailsQuietly state honest moment left_since store shards old new now standing n e → Runs (refuses e ∷ [])
    fails_with asked shows asks no_write n e calls gone (next, quiet, cause) =
        let is = asked_is asked shows asks no_write next now.machine quiet in
        refused_by asked shows asks no_write next now.machine quiet e gone (cause r (ending now next now.machine r []) refl (calls_on shards r asked f.holds n is (sym shows.holds) calls))
