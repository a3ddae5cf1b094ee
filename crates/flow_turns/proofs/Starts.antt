-- The start of a flow keeps the promise of a step, whatever it was asked.
use Rattle.std.proofs.Common.{◌≡◌, ◌≢◌, inl, inr, ⊎_elim, ◌==◌, ◌<◌, ℕ, zero, suc, Bool, true, false, true≢false, List, [], ◌∷◌, length, Option, Some, None, slice_get, Contains, refl, sym, ◌∙◌, ap, subst, arith, if◌then◌else◌}
use Rattle.std.specs.List.{AllByRecursion, IsDistinct, list_any}
use Rattle.std.proofs.Math.Dec.{eqb}
use Rattle.std.proofs.Math.Path.{fun_ext}
use Rattle.std.proofs.lemmas.Bool.{cases_Bool, eq-eqb, eqb-true}
use Rattle.std.proofs.lemmas.Map.Made.{length-le_from_is_member}
use Rattle.std.proofs.lemmas.Cmp.{nat_eq_equiv}
use Rattle.std.proofs.lemmas.List.Elements.{Contains-append_right}
use Rattle.std.proofs.lemmas.Map.Views.{Contains-from_any, list_any-from_Contains}
use Rattle.flow_turns.proofs.CallWords.{AreSound, Asked, FlowView, IsAsked, IsBegunThere, IsHorizonIn, Moment, NodeName, Ran, Record, Running, ShowsSlot, Stands, StandsOver, State, Store, alone, events_of, flow_at, left, nothing_held, restart, shown_flow, start, stops}
use Rattle.stores.specs.FlowLaws.{with_flow}
use Rattle.stores.specs.Moments.{begun}
use Rattle.turns.specs.Runs.{began}
use Rattle.stores.proofs.FlowBegins.{flows_begin}
use Rattle.flow_turns.proofs.Made.{inside_by, still_given, still_within}
use Rattle.flow_turns.specs.Steps.{FlowsStart}
use Rattle.tuples.proofs.Lists.{first_or_later}

-- the slots of flows
pub slots_of : List Running → List ℕ
slots_of [] = []
slots_of (r ∷ rs) = r.slot ∷ slots_of rs

pub no_fewer : (rs : List Running) → length (slots_of rs) ≡ length rs
unfolding slots_of
no_fewer [] = refl
no_fewer (r ∷ rs) = ap suc (no_fewer rs)

not_equal : (a b : ℕ) → a ≢ b → eqb a b ≡ false
not_equal a b ne = ⊎_elim (λ same. absurd (ne (eqb-true a b same))) (λ other. other) (cases_Bool (eqb a b))

-- a slot of none of them
apart : (slot : ℕ) (rs : List Running) → ((j : ℕ) (r : Running) → slice_get rs j ≡ Some r → r.slot ≢ slot) → AllByRecursion (λ (y : ℕ). eqb slot y ≡ false) (slots_of rs)
unfolding slots_of
apart slot [] none = tt
apart slot (r ∷ rs) none = (not_equal slot r.slot (λ is. none zero r refl (sym is)), apart slot rs (λ j q is. none (suc j) q is))

distinct : (rs : List Running) → ((i j : ℕ) (q r : Running) → slice_get rs i ≡ Some q → slice_get rs j ≡ Some r → q.slot ≡ r.slot → i ≡ j) → IsDistinct eqb (slots_of rs)
unfolding slots_of IsDistinct
distinct [] once = tt
distinct (r ∷ rs) once = (
  apart r.slot rs (λ j q is same. let e = once (suc j) zero q r is refl same in absurd (omega (arith, e))),
  distinct rs (λ i j p q is_p is_q same. omega (arith, once (suc i) (suc j) p q is_p is_q same)),
)

-- each slot is that of a flow
of_flow : (rs : List Running) (t : ℕ) → Contains (slots_of rs) t → (j : ℕ) × (r : Running) × (slice_get rs j ≡ Some r) × (r.slot ≡ t)
unfolding slots_of
of_flow [] t has = absurd (omega (arith, has.1))
of_flow (r ∷ rs) t has = ⊎_elim
    (λ first. (zero, r, refl, first))
    (λ rest. let found = of_flow rs t rest in (suc found.0, found.1, found.2, found.3))
    (first_or_later r.slot t (slots_of rs) has)

-- and each flow's slot is among them
in_slots : (t : ℕ) (rs : List Running) (r : Running) → flow_at t rs ≡ Some r → Contains (slots_of rs) t
unfolding slots_of
in_slots t [] r is = absurd cc
in_slots t (q ∷ rs) r is = ⊎_elim
    (λ here. subst (Contains (q.slot ∷ slots_of rs)) (eqb-true q.slot t here) (alone q.slot (slots_of rs)))
    (λ other. Contains-append_right (q.slot ∷ []) (slots_of rs) t (in_slots t rs r (sym (ap (λ b. if b then Some q else flow_at t rs) other) ∙ is)))
    (cases_Bool (q.slot == t))

pub at_slots : (t : ℕ) (rs : List Running) (r : Running) → flow_at t rs ≡ Some r → list_any (eqb t) (slots_of rs) ≡ true
at_slots t rs r is = list_any-from_Contains nat_eq_equiv t (slots_of rs) (in_slots t rs r is)

at_index : (rs : List Running) (j : ℕ) (r : Running) → slice_get rs j ≡ Some r → (q : Running) × (flow_at r.slot rs ≡ Some q)
at_index [] zero r is = absurd cc
at_index [] (suc j) r is = absurd cc
at_index (q ∷ rs) j r is = by_test (q.slot == r.slot) refl (λ k is_k. at_index rs k r is_k) j is
  where
    by_test : (b : Bool) → (q.slot == r.slot) ≡ b → ((k : ℕ) → slice_get rs k ≡ Some r → (p : Running) × (flow_at r.slot rs ≡ Some p)) → (k : ℕ) → slice_get (q ∷ rs) k ≡ Some r
        → (p : Running) × (flow_at r.slot (q ∷ rs) ≡ Some p)
    by_test true same rest k is_k = (q, ap (λ c. if c then Some q else flow_at r.slot rs) same)
    by_test false other rest zero is_k =
        let one : q ≡ r = cc in
        absurd (true≢false (sym (eq-eqb q.slot r.slot (ap (λ (x : Running). x.slot) one)) ∙ other))
    by_test false other rest (suc k) is_k = let found = rest k is_k in (found.0, ap (λ c. if c then Some q else flow_at r.slot rs) other ∙ found.1)

module _ {D : Type 0} (state : D → State) (honest : D → Type 0) (moment : D → ℕ) (left_since : D → ℕ → List ℕ → Type 0)
    (only_now : (d : D) (c : List ℕ) → honest d → left_since d (moment d) c → left (state d) c)
    (store shards : ℕ) (old new : Store D) (slot : ℕ) (asked : Asked) (whole : IsAsked shards asked) (there : IsBegunThere old new slot asked) (number : ℕ) (now : Moment) (standing : StandsOver state honest store shards old now) where
  abbrev before : NodeName → List Record → Type 0
  before = stops state honest store shards old.devices

  devices : new.devices ≡ old.devices
  devices = fun_ext (λ n. there.store_stays.devices n)

  shown_none : (o : Option Running) (g : Option FlowView) → g ≡ None → ShowsSlot o g → o ≡ None
  shown_none None g none shows = refl
  shown_none (Some r) g none shows = absurd (subst (ShowsSlot (Some r)) none shows)

  free : flow_at slot now.running ≡ None
  free = shown_none (flow_at slot now.running) (old.flows slot) there.free (standing.flows slot)

  shown_some : (o : Option Running) (g : Option FlowView) (r : Running) → o ≡ Some r → ShowsSlot o g → g ≢ None
  shown_some o None r is shows none = absurd (subst (λ (x : Option Running). ShowsSlot x None) is shows)
  shown_some o (Some v) r is shows none = cc

  -- each flow that runs has one of the slots that are taken
  in_taken : (t : ℕ) → Contains (slots_of now.running) t → Contains there.taken t
  in_taken t has =
      let flow = of_flow now.running t has in
      let found = at_index now.running flow.0 flow.1 flow.2 in
      there.all t (subst (λ (u : ℕ). old.flows u ≢ None) flow.3 (shown_some (flow_at flow.1.slot now.running) (old.flows flow.1.slot) found.0 found.1 (standing.flows flow.1.slot)))

  few : length now.running < 1024
  few =
      let all = length-le_from_is_member nat_eq_equiv (slots_of now.running) there.taken (distinct now.running standing.stands.flows.slots)
      (λ q is. list_any-from_Contains nat_eq_equiv q there.taken (in_taken q (Contains-from_any eqb-true q (slots_of now.running) is))) in
      omega (arith, all, no_fewer now.running, there.few)

  abbrev after : Moment
  after = with_flow now slot asked

  shows : (t : ℕ) → ShowsSlot (flow_at t after.running) (new.flows t)
  shows t = ⊎_elim
      (λ same.
      let is : t ≡ slot = eqb-true t slot same in
      subst (ShowsSlot (flow_at t after.running)) (sym (ap new.flows is ∙ there.started))
      (subst (λ (o : Option Running). ShowsSlot o (Some (shown_flow asked (nothing_held asked)))) (sym (here t (sym is)))
      (record { asked = λ a of. let one : asked ≡ a = cc in sym one; still_asked = λ none. refl; holds = refl; cancelled = refl })))
      (λ other.
      let ne : t ≢ slot = λ is. true≢false (sym (eq-eqb t slot is) ∙ other) in
      subst (λ (o : Option Running). ShowsSlot o (new.flows t)) (sym (elsewhere t (λ is. ne (sym is)))) (subst (ShowsSlot (flow_at t now.running)) (sym (there.others t ne)) (standing.flows t)))
      (cases_Bool (t == slot))
    where
      here : (t : ℕ) → slot ≡ t → flow_at t after.running ≡ Some (begun slot asked)
      here t is = ap (λ c. if c then Some (begun slot asked) else flow_at t now.running) (eq-eqb slot t is)

      elsewhere : (t : ℕ) → slot ≢ t → flow_at t after.running ≡ flow_at t now.running
      elsewhere t ne = ap (λ c. if c then Some (begun slot asked) else flow_at t now.running) (not_equal slot t ne)

  ran : Ran state honest moment left_since store shards old now number (start asked) (events_of number (began slot ∷ [])) new
  ran = record {
    after = after;
    told = began slot ∷ [];
    takes = inl (whole, inl (slot, free, few, refl, refl));
    tells = refl;
    stands = record {
      sound = subst (λ (f : NodeName → D × D). AreSound state honest store shards f) (sym devices) standing.sound;
      nodes = record {
        at = λ n. standing.nodes.at n ∙ sym (there.store_stays.at n);
        open_ids = standing.nodes.open_ids ∙ sym there.store_stays.open_ids;
        given = standing.nodes.given ∙ sym there.store_stays.given;
      };
      flows = shows;
      stands = subst (λ (f : NodeName → D × D). Stands store shards (stops state honest store shards f) after) (sym devices) (flows_begin store shards before now slot asked free few standing.stands);
    };
    named = λ x is. inr (subst (λ (f : NodeName → D × D). IsHorizonIn store shards (stops state honest store shards f) now.nodes x) devices is);
    fails = λ n is_there is_down not_down. absurd (not_down is_down);
    opens = λ n is_there is. absurd (no_restart n is);
    inside = inside_by state honest moment left_since store shards old new now standing (still_within state honest moment left_since store shards old new now standing only_now devices) now.machine;
    given = still_given state honest moment left_since store shards old new now standing devices;
  }
    where
      no_restart : (n : NodeName) → start asked ≡ restart n → ⊥
      no_restart n is = cc

pub flows_start : {D : Type 0} (state : D → State) (honest : D → Type 0) (moment : D → ℕ) (left_since : D → ℕ → List ℕ → Type 0)
    (only_now : (d : D) (c : List ℕ) → honest d → left_since d (moment d) c → left (state d) c) (store shards : ℕ) → FlowsStart state honest moment left_since store shards
flows_start state honest moment left_since only_now store shards old new slot asked whole there number now standing = ran state honest moment left_since only_now store shards old new slot asked whole there number now standing
