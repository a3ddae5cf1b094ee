-- A turn of the flow in a slot, whatever its kind, keeps the promise of a step; an empty slot has none.
use Rattle.std.proofs.Common.{◌≡◌, ◌≤◌, ℕ, List, [], Option, Some, None, MatchOption, refl, sym, subst}
use Rattle.headline.proofs.Words.{Care, Check, Flow, IsIdle, Keeps, NamesHorizon, NodeName, Read, Running, Shows, State, StepKeeps, Store, Turn, Watch, What, WorldView, Write, flow_at, left, running_at}
use Rattle.turns.specs.Runs as runs
use Rattle.calls.specs.declared.progress.Progress.{Progress}
use Rattle.cluster.specs.Steps.{LeavesSlot, Makes, TurnsIn}
use Rattle.headline.proofs.CareTurn.{care_turns}
use Rattle.headline.proofs.CheckTurn.{check_turns}
use Rattle.headline.proofs.ReadTurn.{read_turns}
use Rattle.headline.proofs.Slots.{none_shown}
use Rattle.headline.proofs.Still.{keeps_idle, none_runs}
use Rattle.headline.proofs.WatchTurn.{watch_turns}
use Rattle.headline.proofs.WriteTurn.{write_turns}

module _ {D : Type 0} (state : D → State) (honest : D → Type 0) (moment : D → ℕ) (left_since : D → ℕ → List ℕ → Type 0)
    (counts_now : (d : D) (t : ℕ) (c : List ℕ) → honest d → t ≤ moment d → left (state d) c → left_since d t c) (only_now : (d : D) (c : List ℕ) → honest d → left_since d (moment d) c → left (state d) c) where
  module _ (old new : WorldView D) (s : Store D) (shows : Shows old s) (slot : ℕ) (told : Option What) where
    by_kind : (flow : Flow) (after : Progress Flow (Option What)) → flow_at old.flows slot ≡ Some flow → Makes state honest moment left_since old.shards old.nodes flow new.nodes after → LeavesSlot old.flows slot after told new.flows
        → new ≡ record old { nodes = new.nodes; flows = new.flows } → Keeps state honest moment left_since old s (Turn slot) told new
    by_kind (Write v) after here t l is = write_turns state honest moment left_since counts_now only_now old new s shows slot told v t.0 after here t.1 t.2 l is
    by_kind (Read v) after here t l is = read_turns state honest moment left_since counts_now only_now old new s shows slot told v t.0 after here t.1 t.2 l is
    by_kind (Check v) after here t l is = check_turns state honest moment left_since counts_now only_now old new s shows slot told v t.0 after here t.1 t.2 l is
    by_kind (Watch v) after here t l is = watch_turns state honest moment left_since counts_now only_now old new s shows slot told v t.0 after here t.1 t.2 l is
    by_kind (Care v) after here t l is = care_turns state honest moment left_since counts_now only_now old new s shows slot told v t.0 after here t.1 t.2 l is

    empty : flow_at old.flows slot ≡ None → IsIdle state honest moment left_since old told new → Keeps state honest moment left_since old s (Turn slot) told new
    empty none idle = keeps_idle state honest moment left_since only_now old new s shows (Turn slot) told no_restart idle.0 idle.1
        (λ now standing. subst (λ (o : Option Running). runs.IfRunning old.shards (NamesHorizon state honest old.store old.shards s now) (runs.Turns old.shards (NamesHorizon state honest old.store old.shards s now)) o now [] now)
        (sym (none_runs (running_at slot now.running) (s.flows slot) (none_shown old.shards old.flows s.flows shows.flows slot none) (standing.flows slot))) (refl, refl))
      where
        no_restart : (n : NodeName) → runs.turn slot ≡ runs.restart n → ⊥
        no_restart n is = cc

    by_flow : (o : Option Flow) → flow_at old.flows slot ≡ o → MatchOption o (IsIdle state honest moment left_since old told new) (λ flow. TurnsIn state honest moment left_since old slot flow told new)
        → Keeps state honest moment left_since old s (Turn slot) told new
    by_flow None none idle = empty none idle
    by_flow (Some flow) here (turned, is) = by_kind flow turned.after here turned.turns turned.leaves is

  pub turns_keep : (slot : ℕ) → StepKeeps state honest moment left_since (Turn slot)
  turns_keep slot old new s told shows whole takes = by_flow old new s shows slot told (flow_at old.flows slot) refl takes
