-- Steps that call no node: the store has other flows, or nothing changes.
use Rattle.std.proofs.Common.{◌≡◌, inr, ℕ, List, [], Option, Some, None, refl, sym, ap, subst}
use Rattle.headline.proofs.Words.{Flow, FlowView, IsShownSlot, Keeps, Moment, NamesHorizon, NodeName, NodeView, Ran, Running, Shows, ShowsMemory, ShowsSlot, StandsOver, State, Step, Store, What, WorldView, all_told, events_of, flow_at, inside_by, left, step_of, still_given, still_within}
use Rattle.calls.specs.Views as views
use Rattle.turns.specs.Runs as runs

-- a store with other flows shows the nodes that it showed
same_memory : {D : Type 0} (v : NodeView D) (s : Store D) (flows : ℕ → Option FlowView) → ShowsMemory v s → ShowsMemory v (record s { flows = flows })
same_memory (views.coordinator v) s flows shows = shows
same_memory (views.shard v) s flows shows = tt
same_memory (views.refused e a b) s flows shows = tt

pub other_flows : {D : Type 0} (old : WorldView D) (s : Store D) → Shows old s → (flows : List (Option Flow)) (shown : ℕ → Option FlowView) → ((k : ℕ) → IsShownSlot old.shards (flow_at flows k) (shown k))
    → Shows (record old { flows = flows }) (record s { flows = shown })
other_flows old s shows flows shown are = record {
  some = shows.some;
  count = shows.count;
  nodes = λ n v is. let node = shows.nodes n v is in
      record { there = node.there; named = node.named; devices = node.devices; at = node.at; memory = same_memory v s shown node.memory };
  flows = are;
}

module _ {D : Type 0} (state : D → State) (honest : D → Type 0) (moment : D → ℕ) (left_since : D → ℕ → List ℕ → Type 0)
    (only_now : (d : D) (c : List ℕ) → honest d → left_since d (moment d) c → left (state d) c) where
  -- a step that is idle keeps the promise: the moment after it is the one before
  idle_ran : (store shards : ℕ) (s : Store D) (now : Moment) → StandsOver state honest store shards s now → (number : ℕ) (step : runs.Step) → ((n : NodeName) → step ≡ runs.restart n → ⊥)
      → runs.Takes shards (NamesHorizon state honest store shards s now) now step [] now → Ran state honest moment left_since store shards s now number step [] s
  idle_ran store shards s now standing number step no_restart takes = record {
    after = now;
    told = [];
    takes = takes;
    tells = refl;
    stands = standing;
    named = λ x is. inr is;
    fails = λ n there is_down not_down. absurd (not_down is_down);
    opens = λ n there is. absurd (no_restart n is);
    inside = inside_by state honest moment left_since store shards s s now standing (still_within state honest moment left_since store shards s s now standing only_now refl) now.machine;
    given = still_given state honest moment left_since store shards s s now standing refl;
  }

  -- and leaves the world as it was
  pub keeps_idle : (old new : WorldView D) (s : Store D) → Shows old s → (step : Step) (told : Option What) → ((n : NodeName) → step_of step ≡ runs.restart n → ⊥) → told ≡ None → new ≡ old
      → ((now : Moment) → StandsOver state honest old.store old.shards s now → runs.Takes old.shards (NamesHorizon state honest old.store old.shards s now) now (step_of step) [] now)
      → Keeps state honest moment left_since old s step told new
  keeps_idle old new s shows step told no_restart untold same takes = record {
    later = s;
    shows = λ now standing. subst (λ (w : WorldView D). Shows w s) (sym same) shows;
    store_is = ap (λ (w : WorldView D). w.store) same;
    shards_is = ap (λ (w : WorldView D). w.shards) same;
    runs = λ number now standing. subst (λ (o : Option What). Ran state honest moment left_since old.store old.shards s now number (step_of step) (events_of number (all_told o)) s) (sym untold)
        (idle_ran old.store old.shards s now standing number (step_of step) no_restart (takes now standing));
  }

-- no flow runs in a slot that is shown empty
pub none_runs : (o : Option Running) (g : Option FlowView) → g ≡ None → ShowsSlot o g → o ≡ None
none_runs None g none shows = refl
none_runs (Some r) g none shows = absurd (subst (ShowsSlot (Some r)) none shows)
