-- A run moves the machine.
use Rattle.std.proofs.Common.{inl, inr, ◌+◌, ℕ, List, [], ◌∷◌, ◌++◌, Option, Some, None, ap}
use Rattle.turns.proofs.Words.{Event, IfRunning, IsCancelled, IsRun, Moment, Move, Moves, Running, Step, Takes, Told, Turns, cancel, flow_at, restart, start, turn}
use Rattle.turns.specs.StoreLaws.{RunsMove}
use Rattle.laws.proofs.MachineMoves.{moves_then}

module _ (shards : ℕ) (found_before : ℕ → Type 0) where
  some_moves : Moment → Moment → Type 0
  some_moves before after = (moves : List Move) × Moves before.machine moves after.machine

  -- a turn or a cancel moves the machine, or leaves it
  turn_moves : (o : Option Running) (before after : Moment) (told : List Told) → IfRunning shards found_before (Turns shards found_before) o before told after → some_moves before after
  unfolding some_moves
  turn_moves None before after told is = ([], ap (λ (x : Moment). x.machine) is.1)
  turn_moves (Some r) before after told is = (is.moves, is.machine)

  cancel_moves : (o : Option Running) (before after : Moment) (told : List Told) → IfRunning shards found_before (IsCancelled shards found_before) o before told after → some_moves before after
  unfolding some_moves
  cancel_moves None before after told is = ([], ap (λ (x : Moment). x.machine) is.1)
  cancel_moves (Some r) before after told is = ([], is.machine)

  -- whatever a step does, the machine moves
  step_moves : (before after : Moment) (s : Step) (told : List Told) → Takes shards found_before before s told after → some_moves before after
  unfolding some_moves
  step_moves before after (start asked) told (inl (asks, inl begins)) = ([], ap (λ (x : Moment). x.machine) begins.4)
  step_moves before after (start asked) told (inl (asks, inr full)) = ([], ap (λ (x : Moment). x.machine) full.2)
  step_moves before after (start asked) told (inr (not_asks, idle)) = ([], ap (λ (x : Moment). x.machine) idle.1)
  step_moves before after (turn slot) told is = turn_moves (flow_at slot before.running) before after told is
  step_moves before after (cancel slot) told is = cancel_moves (flow_at slot before.running) before after told is
  step_moves before after (restart n) told (inl (there, restarts)) = (restarts.moves, restarts.machine)
  step_moves before after (restart n) told (inr (not_there, idle)) = ([], ap (λ (x : Moment). x.machine) idle.1)

  -- a whole run is a list of moves of the machine, so what was kept before it stays kept
  pub run_moves : (n : ℕ) (before after : Moment) (steps : List Step) (events : List Event) → IsRun shards found_before n before steps events after
      → (moves : List Move) × Moves before.machine moves after.machine
  unfolding some_moves
  run_moves n before after [] events run = ([], ap (λ (x : Moment). x.machine) run.1)
  run_moves n before after (s ∷ steps) events (mid, told, later, takes, run, is) =
      let first = step_moves before mid s told takes in
      let rest = run_moves (n + 1) mid after steps later run in
      (first.0 ++ rest.0, moves_then before.machine mid.machine after.machine first.0 rest.0 first.1 rest.1)

pub runs_move : (shards : ℕ) (found_before : ℕ → Type 0) → RunsMove shards found_before
runs_move shards found_before number before after steps events run = run_moves shards found_before number before after steps events run
