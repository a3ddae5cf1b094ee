-- The start of a flow keeps the promise of a step: it begins in a free slot, is refused if as many run as may, or may not be asked for.
use Rattle.std.proofs.Common.{◌≡◌, ◌⊎◌, ⊎_elim, inl, inr, ◌<◌, ◌≤◌, ℕ, List, [], length, Option, Some, refl, sym, ◌∙◌, ap, subst, arith}
use Rattle.std.proofs.lemmas.Bool.{cases_eq, cases_lt}
use Rattle.headline.proofs.Words.{AddsFlow, Asked, Began, Flow, FlowView, Freshness, Full, IsAsked, IsShownFlow, IsShownSlot, IsThere, IsWholeStep, Keeps, NamesHorizon, NodeName, RunsOne, Shows, Start, State, Step, StepKeeps, Store, What, WorldView, all_told, care_for, events_of, flow_at, flow_count, left, nothing_held, shown_flow, step_of}
use Rattle.tuples.specs.Limits.{max_asked, max_flows, max_number, max_watched}
use Rattle.decisions.specs.Flows.{at_least, exact, latest}
use Rattle.names.specs.declared.node_name.NodeName as names
use Rattle.names.specs.declared.node_name.NodeName.TheVariants as called_names
use Rattle.care_flow.specs.Flushing as flushes
use Rattle.names.specs.declared.care.Care.{Care}
use Rattle.names.specs.declared.care.Care.TheVariants as any_care
use Rattle.tuples.specs.Checking.{userset_of}
use Rattle.stores.specs.Flows.{IsFreshness}
use Rattle.turns.specs.Runs as runs
use Rattle.flow_turns.specs.StoreCalls.{name_of}
use Rattle.flow_turns.proofs.FullStores.{full_stores_refuse}
use Rattle.flow_turns.proofs.Starts.{flows_start}
use Rattle.cluster.specs.Begun.{IsFresh, IsInLimits, IsNodeThere, MayCare, begun_for, caring_for}
use Rattle.cluster.specs.Steps.{Begins}
use Rattle.cluster.specs.declared.event.What.TheVariants.{Refused}
use Rattle.tuples.specs.declared.request.Request.{Request}
use Rattle.tuples.specs.declared.request.Request.TheVariants as requests
use Rattle.headline.specs.Told.{asked_by, asked_for}
use Rattle.headline.proofs.Behind.{at_slot, off_slot, with_slot}
use Rattle.headline.proofs.Slots.{all_taken, as_many, each_taken, none_shown, once, taken_slots}
use Rattle.headline.proofs.Still.{keeps_idle, other_flows}

-- What may be asked for or not, with the flow that begins for it.
pub record IsAskable (shards : ℕ) (may : Type 0) (asked : Asked) (flow : Flow) : Type 0 where
  pub decided : may ⊎ (may → ⊥)
  pub whole : may → IsAsked shards asked
  pub wanted : IsAsked shards asked → may
  pub shown : may → IsShownFlow shards flow (shown_flow asked (nothing_held asked))

module _ {D : Type 0} (state : D → State) (honest : D → Type 0) (moment : D → ℕ) (left_since : D → ℕ → List ℕ → Type 0)
    (only_now : (d : D) (c : List ℕ) → honest d → left_since d (moment d) c → left (state d) c) where
  module _ (old new : WorldView D) (s : Store D) (shows : Shows old s) (step : Step) (told : Option What) (may : Type 0) (asked : Asked) (flow : Flow) (is_start : step_of step ≡ runs.start asked)
      (able : IsAskable old.shards may asked flow) (begins : Begins old.flows may flow told new.flows) (new_is : new ≡ record old { flows = new.flows }) where
    same_world : new.flows ≡ old.flows → new ≡ old
    same_world same = new_is ∙ ap (λ (fs : List (Option Flow)). record old { flows = fs }) same

    not_asked : (may → ⊥) → Keeps state honest moment left_since old s step told new
    not_asked not =
        let nothing = begins.nowhere not in
        keeps_idle state honest moment left_since only_now old new s shows step told (λ n is. no_restart n (sym is_start ∙ is)) nothing.0 (same_world nothing.1)
        (λ now standing. subst (λ (x : runs.Step). runs.Takes old.shards (NamesHorizon state honest old.store old.shards s now) now x [] now) (sym is_start) (inr (λ whole. not (able.wanted whole), (refl, refl))))
      where
        no_restart : (n : NodeName) → runs.start asked ≡ runs.restart n → ⊥
        no_restart n is = cc

    -- by the law of a start that tells this
    keeps : (t : What) (later : Store D) → told ≡ Some t → Shows (record old { flows = new.flows }) later
        → ((number : ℕ) → RunsOne state honest moment left_since old.store old.shards s number (runs.start asked) (events_of number (all_told (Some t))) later) → Keeps state honest moment left_since old s step told new
    keeps t later tells is_shown law = record {
      later = later;
      shows = λ now standing. subst (λ (w : WorldView D). Shows w later) (sym new_is) is_shown;
      store_is = ap (λ (w : WorldView D). w.store) new_is;
      shards_is = ap (λ (w : WorldView D). w.shards) new_is;
      runs = λ number. subst (λ (x : runs.Step). RunsOne state honest moment left_since old.store old.shards s number x (events_of number (all_told told)) later) (sym is_start)
          (subst (λ (o : Option What). RunsOne state honest moment left_since old.store old.shards s number (runs.start asked) (events_of number (all_told o)) later) (sym tells) (law number));
    }

    full : may → max_flows ≤ flow_count old.flows → Keeps state honest moment left_since old s step told new
    full is many =
        let told_so = begins.full is many in
        keeps (Refused Full) s told_so.0 (subst (λ (w : WorldView D). Shows w s) (sym (ap (λ (fs : List (Option Flow)). record old { flows = fs }) told_so.1)) shows)
        (λ number. full_stores_refuse state honest moment left_since only_now old.store old.shards s s asked (able.whole is) (record {
          taken = taken_slots old.flows;
          many = omega (arith, many, as_many old.flows);
          once = once old.flows;
          each = each_taken old.shards old.flows s.flows shows.flows;
          store_stays = record { devices = λ n. refl; at = λ n. refl; open_ids = refl; given = refl };
          same = λ t. refl;
        }) number)

    module _ (is : may) (few : flow_count old.flows < max_flows) (adds : AddsFlow old.flows flow told new.flows) where
      abbrev view : FlowView
      view = shown_flow asked (nothing_held asked)

      abbrev store_then : Store D
      store_then = record s { flows = with_slot adds.slot (Some view) s.flows }

      are_shown : (k : ℕ) → IsShownSlot old.shards (flow_at new.flows k) (store_then.flows k)
      are_shown k = ⊎_elim
          (λ same. subst (λ (j : ℕ). IsShownSlot old.shards (flow_at new.flows j) (store_then.flows j)) (sym same)
          (subst (λ (f : Option Flow). IsShownSlot old.shards f (store_then.flows adds.slot)) (sym adds.puts.at)
          (subst (IsShownSlot old.shards (Some flow)) (sym (at_slot adds.slot (Some view) s.flows)) (able.shown is))))
          (λ ne. subst (λ (f : Option Flow). IsShownSlot old.shards f (store_then.flows k)) (sym (adds.puts.others k ne))
          (subst (IsShownSlot old.shards (flow_at old.flows k)) (sym (off_slot adds.slot (Some view) s.flows k ne)) (shows.flows k)))
          (cases_eq k adds.slot)

      begun : Keeps state honest moment left_since old s step told new
      begun = keeps (Began adds.slot) store_then adds.tells (other_flows old s shows new.flows (with_slot adds.slot (Some view) s.flows) are_shown)
          (λ number. flows_start state honest moment left_since only_now old.store old.shards s store_then adds.slot asked (able.whole is) (record {
            taken = taken_slots old.flows;
            few = omega (arith, few, as_many old.flows);
            all = all_taken old.shards old.flows s.flows shows.flows;
            free = none_shown old.shards old.flows s.flows shows.flows adds.slot adds.free;
            store_stays = record { devices = λ n. refl; at = λ n. refl; open_ids = refl; given = refl };
            started = at_slot adds.slot (Some view) s.flows;
            others = λ t ne. off_slot adds.slot (Some view) s.flows t ne;
          }) number)

    pub keeps_start : Keeps state honest moment left_since old s step told new
    keeps_start = ⊎_elim
        (λ is. ⊎_elim (λ (few : flow_count old.flows < max_flows). begun is few (begins.begins is few)) (λ (many : max_flows ≤ flow_count old.flows). full is many) (cases_lt (flow_count old.flows) max_flows))
        not_asked
        able.decided

-- Numbers in their range, or not.
at_most : (a b : ℕ) → (a ≤ b) ⊎ ((a ≤ b) → ⊥)
at_most a b = ⊎_elim (λ (lt : b < a). inr (λ le. omega (arith, lt, le))) (λ (le : a ≤ b). inl le) (cases_lt b a)

below_or_not : (shards s : ℕ) → (s < shards) ⊎ ((s < shards) → ⊥)
below_or_not shards s = ⊎_elim (λ (lt : s < shards). inl lt) (λ (le : shards ≤ s). inr (λ lt. omega (arith, lt, le))) (cases_lt s shards)

both : (A B : Type 0) → A ⊎ (A → ⊥) → B ⊎ (B → ⊥) → (A × B) ⊎ ((A × B) → ⊥)
both A B (inl a) (inl b) = inl (a, b)
both A B (inl a) (inr not) = inr (λ p. not p.1)
both A B (inr not) b = inr (λ p. not p.0)

in_range : (A : Type 0) (k n m : ℕ) → A ⊎ (A → ⊥) → (A × (k ≤ n) × (n ≤ m)) ⊎ ((A × (k ≤ n) × (n ≤ m)) → ⊥)
in_range A k n m a = ⊎_elim (λ p. inl (p.0, p.1.0, p.1.1)) (λ not. inr (λ p. not (p.0, (p.1, p.2)))) (both A ((k ≤ n) × (n ≤ m)) a (both (k ≤ n) (n ≤ m) (at_most k n) (at_most n m)))

fresh_or_not : (f : Freshness) → IsFresh f ⊎ (IsFresh f → ⊥)
fresh_or_not latest = inl tt
fresh_or_not (at_least place) = at_most place max_number
fresh_or_not (exact place) = at_most place max_number

to_laws : (f : Freshness) → IsFresh f → IsFreshness f
to_laws latest is = tt
to_laws (at_least place) is = is
to_laws (exact place) is = is

from_laws : (f : Freshness) → IsFreshness f → IsFresh f
from_laws latest is = tt
from_laws (at_least place) is = is
from_laws (exact place) is = is

watch_in_range : (c limit names : ℕ) → ((c ≤ max_number) × (1 ≤ limit) × (limit ≤ max_watched) × (1 ≤ names) × (names ≤ max_asked)) ⊎ (((c ≤ max_number) × (1 ≤ limit) × (limit ≤ max_watched) × (1 ≤ names) × (names ≤ max_asked)) → ⊥)
watch_in_range c limit names = ⊎_elim
    (λ p. inl (p.0, p.1.0, p.1.1, p.2.0, p.2.1))
    (λ not. inr (λ p. not (p.0, (p.1, p.2), (p.3, p.4))))
    all_of
  where
    all_of : ((c ≤ max_number) × ((1 ≤ limit) × (limit ≤ max_watched)) × ((1 ≤ names) × (names ≤ max_asked))) ⊎ (((c ≤ max_number) × ((1 ≤ limit) × (limit ≤ max_watched)) × ((1 ≤ names) × (names ≤ max_asked))) → ⊥)
    all_of = ⊎_elim (λ p. inl (p.0, p.1.0, p.1.1)) (λ not. inr (λ p. not (p.0, (p.1, p.2))))
        (both (c ≤ max_number) (((1 ≤ limit) × (limit ≤ max_watched)) × ((1 ≤ names) × (names ≤ max_asked))) (at_most c max_number)
        (both ((1 ≤ limit) × (limit ≤ max_watched)) ((1 ≤ names) × (names ≤ max_asked)) (both (1 ≤ limit) (limit ≤ max_watched) (at_most 1 limit) (at_most limit max_watched))
        (both (1 ≤ names) (names ≤ max_asked) (at_most 1 names) (at_most names max_asked))))

-- each request
request_able : (shards : ℕ) (request : Request) → IsWholeStep (Start request) → IsAskable shards (IsInLimits request) (asked_by request) (begun_for shards request)
request_able shards (requests.Write write) whole = record { decided = inl tt; whole = λ is. whole; wanted = λ is. tt; shown = λ is. (refl, refl) }
request_able shards (requests.Read fresh sets) whole = record {
  decided = in_range (IsFresh fresh) 1 (length sets.items) max_asked (fresh_or_not fresh);
  whole = λ is. (to_laws fresh is.0, is.1, is.2);
  wanted = λ is. (from_laws fresh is.0, is.1, is.2);
  shown = λ is. (refl, refl, (to_laws fresh is.0, is.1, is.2));
}
request_able shards (requests.Check fresh tuple) whole = record {
  decided = fresh_or_not fresh;
  whole = to_laws fresh;
  wanted = from_laws fresh;
  shown = λ is. (userset_of tuple, refl, refl, to_laws fresh is);
}
request_able shards (requests.Watch cursor limit names) whole =
    record { decided = watch_in_range cursor limit (length names.items); whole = λ is. is; wanted = λ is. is; shown = λ is. (refl, is) }

-- each care
node_or_not : (shards : ℕ) (n : names.NodeName) → IsNodeThere shards n ⊎ (IsNodeThere shards n → ⊥)
node_or_not shards called_names.Coordinator = inl tt
node_or_not shards (called_names.Shard s) = below_or_not shards s

node_to_laws : (shards : ℕ) (n : names.NodeName) → IsNodeThere shards n → IsThere shards (name_of n)
node_to_laws shards called_names.Coordinator is = tt
node_to_laws shards (called_names.Shard s) is = is

node_from_laws : (shards : ℕ) (n : names.NodeName) → IsThere shards (name_of n) → IsNodeThere shards n
node_from_laws shards called_names.Coordinator is = tt
node_from_laws shards (called_names.Shard s) is = is

node_to_flow : (shards : ℕ) (n : names.NodeName) → IsNodeThere shards n → flushes.IsThere shards n
node_to_flow shards called_names.Coordinator is = tt
node_to_flow shards (called_names.Shard s) is = is

care_able : (shards : ℕ) (care : Care) → IsAskable shards (MayCare shards care) (asked_for care) (caring_for shards care)
care_able shards (any_care.Flush node) = record { decided = node_or_not shards node; whole = node_to_laws shards node; wanted = node_from_laws shards node; shown = λ is. (refl, node_to_flow shards node is) }
care_able shards (any_care.Checkpoint node) = record { decided = node_or_not shards node; whole = node_to_laws shards node; wanted = node_from_laws shards node; shown = λ is. (refl, node_to_flow shards node is) }
care_able shards (any_care.Learn s) = record { decided = below_or_not shards s; whole = λ is. is; wanted = λ is. is; shown = λ is. (refl, is) }
care_able shards (any_care.Resolve s) = record { decided = below_or_not shards s; whole = λ is. is; wanted = λ is. is; shown = λ is. (refl, is) }
care_able shards (any_care.Raise place) = record { decided = at_most place max_number; whole = λ is. is; wanted = λ is. is; shown = λ is. (refl, refl) }
care_able shards (any_care.Collect s) = record { decided = below_or_not shards s; whole = λ is. is; wanted = λ is. is; shown = λ is. (refl, is) }

module _ {D : Type 0} (state : D → State) (honest : D → Type 0) (moment : D → ℕ) (left_since : D → ℕ → List ℕ → Type 0)
    (only_now : (d : D) (c : List ℕ) → honest d → left_since d (moment d) c → left (state d) c) where
  pub requests_keep : (request : Request) → StepKeeps state honest moment left_since (Start request)
  requests_keep request old new s told shows whole takes = keeps_start state honest moment left_since only_now old new s shows (Start request) told (IsInLimits request) (asked_by request) (begun_for old.shards request) refl
      (request_able old.shards request whole) takes.0 takes.1

  pub cares_keep : (care : Care) → StepKeeps state honest moment left_since (care_for care)
  cares_keep care old new s told shows whole takes = keeps_start state honest moment left_since only_now old new s shows (care_for care) told (MayCare old.shards care) (asked_for care) (caring_for old.shards care) refl
      (care_able old.shards care) takes.0 takes.1
