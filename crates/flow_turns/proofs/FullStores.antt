-- A start while as many slots are taken as may be keeps the promise of a step: nothing changes, and Full is told.
use Rattle.std.proofs.Common.{◌≡◌, ◌≢◌, inl, inr, ◌≤◌, ℕ, List, [], ◌∷◌, length, Option, Some, None, refl, sym, ◌∙◌, subst, arith}
use Rattle.std.proofs.Math.Path.{fun_ext}
use Rattle.std.proofs.lemmas.Bool.{eqb-true}
use Rattle.std.proofs.lemmas.Cmp.{nat_eq_equiv}
use Rattle.std.proofs.lemmas.Map.Made.{length-le_from_is_member}
use Rattle.std.proofs.lemmas.Map.Views.{Contains-from_any}
use Rattle.flow_turns.proofs.CallWords.{AreSound, Asked, FlowView, Full, IsAsked, IsFullThere, IsHorizonIn, Moment, NodeName, Ran, Running, ShowsSlot, Stands, StandsOver, State, Store, events_of, flow_at, left, refuses, restart, start, stops}
use Rattle.flow_turns.proofs.Made.{inside_by, still_given, still_within}
use Rattle.flow_turns.proofs.Starts.{at_slots, no_fewer, slots_of}
use Rattle.flow_turns.specs.Steps.{FullStoresRefuse}

module _ {D : Type 0} (state : D → State) (honest : D → Type 0) (moment : D → ℕ) (left_since : D → ℕ → List ℕ → Type 0)
    (only_now : (d : D) (c : List ℕ) → honest d → left_since d (moment d) c → left (state d) c)
    (store shards : ℕ) (old new : Store D) (asked : Asked) (whole : IsAsked shards asked) (there : IsFullThere old new) (number : ℕ) (now : Moment) (standing : StandsOver state honest store shards old now) where
  devices : new.devices ≡ old.devices
  devices = fun_ext (λ n. there.store_stays.devices n)

  -- each slot that is taken is that of a flow
  flow_of : (t : ℕ) → old.flows t ≢ None → (r : Running) × (flow_at t now.running ≡ Some r)
  flow_of t taken = by_flow (flow_at t now.running) refl (old.flows t) refl (standing.flows t)
    where
      by_flow : (o : Option Running) → flow_at t now.running ≡ o → (g : Option FlowView) → old.flows t ≡ g → ShowsSlot o g → (r : Running) × (flow_at t now.running ≡ Some r)
      by_flow (Some r) is g shown shows = (r, is)
      by_flow None is None shown shows = absurd (taken shown)
      by_flow None is (Some v) shown shows = absurd shows

  many : 1024 ≤ length now.running
  many =
      let all = length-le_from_is_member nat_eq_equiv there.taken (slots_of now.running) there.once
      (λ q is. let flow = flow_of q (there.each q (Contains-from_any eqb-true q there.taken is)) in at_slots q now.running flow.0 flow.1) in
      omega (arith, all, no_fewer now.running, there.many)

  ran : Ran state honest moment left_since store shards old now number (start asked) (events_of number (refuses Full ∷ [])) new
  ran = record {
    after = now;
    told = refuses Full ∷ [];
    takes = inl (whole, inr (many, refl, refl));
    tells = refl;
    stands = record {
      sound = subst (λ (f : NodeName → D × D). AreSound state honest store shards f) (sym devices) standing.sound;
      nodes = record {
        at = λ n. standing.nodes.at n ∙ sym (there.store_stays.at n);
        open_ids = standing.nodes.open_ids ∙ sym there.store_stays.open_ids;
        given = standing.nodes.given ∙ sym there.store_stays.given;
      };
      flows = λ t. subst (ShowsSlot (flow_at t now.running)) (sym (there.same t)) (standing.flows t);
      stands = subst (λ (f : NodeName → D × D). Stands store shards (stops state honest store shards f) now) (sym devices) standing.stands;
    };
    named = λ x is. inr (subst (λ (f : NodeName → D × D). IsHorizonIn store shards (stops state honest store shards f) now.nodes x) devices is);
    fails = λ n is_there is_down not_down. absurd (not_down is_down);
    opens = λ n is_there is. absurd (no_restart n is);
    inside = inside_by state honest moment left_since store shards old new now standing (still_within state honest moment left_since store shards old new now standing only_now devices) now.machine;
    given = still_given state honest moment left_since store shards old new now standing devices;
  }
    where
      no_restart : (n : NodeName) → start asked ≡ restart n → ⊥
      no_restart n is = cc

pub full_stores_refuse : {D : Type 0} (state : D → State) (honest : D → Type 0) (moment : D → ℕ) (left_since : D → ℕ → List ℕ → Type 0)
    (only_now : (d : D) (c : List ℕ) → honest d → left_since d (moment d) c → left (state d) c) (store shards : ℕ) → FullStoresRefuse state honest moment left_since store shards
full_stores_refuse state honest moment left_since only_now store shards old new asked whole there number now standing = ran state honest moment left_since only_now store shards old new asked whole there number now standing
