-- What a step does to the log: it keeps it, cuts it, or lists one write which nobody was told is aborted.
use Rattle.std.proofs.Common.{◌≡◌, ◌⊎◌, inl, inr, ⊎_elim, ℕ, List, [], ◌∷◌, ◌++◌, Option, Some, None, Contains, All, slice_get, sym, ◌∙◌, ap, subst, ◌+◌}
use Rattle.std.proofs.lemmas.List.Elements.{All-head, All-tail, Contains-append_right}
use Rattle.turns.proofs.Words.{Decides, DecidesNothing, Entry, Event, IfRunning, IsCancelled, IsOfOpening, IsQuiet, IsRun, IsUnlistedAbove, Machine, Makes, MayRise, Moment, Move, Moves, NodeName, Restarts, Running, Step, Takes, Told, Turns, WriteId, append, cancel, coordinator, cut, flow_at, keep, named_by, raise, restart, shard, slice_get_push, slice_get_taken, start, turn}
use Rattle.turns.specs.Runs.{IsIdle}
use Rattle.turns.proofs.RunNames.{restarts_more, turns_more}

-- each write of the one log stands at its place in the other
abbrev pub IsOfLog : Machine → Machine → Type 0
IsOfLog n m = (j : ℕ) (w : Entry) → slice_get n.log j ≡ Some w → slice_get m.log j ≡ Some w

same_log : (m n : Machine) → n.log ≡ m.log → IsOfLog n m
same_log m n same j w is = ap (λ (l : List Entry). slice_get l j) (sym same) ∙ is

no_append : (P : ℕ → Type 0) (m n : Machine) (move : Move) → (IsQuiet P move ⊎ IsOfOpening P move) → Makes m move n → IsOfLog n m
no_append P m n (append w) (inl never) makes = absurd never
no_append P m n (append w) (inr never) makes = absurd never
no_append P m n (keep i) is makes = same_log m n (ap (λ (x : Machine). x.log) makes.1)
no_append P m n (cut i) is makes = λ j w there. slice_get_taken i m.log j w (ap (λ (x : Machine). slice_get x.log j) (sym makes.1) ∙ there)
no_append P m n (raise x) is makes = same_log m n (ap (λ (x : Machine). x.log) makes.2)

quiet_moves : (P : ℕ → Type 0) (m n : Machine) (moves : List Move) → All (IsQuiet P) moves → Moves m moves n → IsOfLog n m
quiet_moves P m n [] all is j w there = same_log m n (ap (λ (x : Machine). x.log) is) j w there
quiet_moves P m n (move ∷ moves) all (mid, first, rest) j w is =
    no_append P m mid move (inl (All-head (IsQuiet P) move moves all)) first j w (quiet_moves P mid n moves (All-tail (IsQuiet P) move moves all) rest j w is)

opening_moves : (P : ℕ → Type 0) (m n : Machine) (moves : List Move) → All (IsOfOpening P) moves → Moves m moves n → IsOfLog n m
opening_moves P m n [] all is j w there = same_log m n (ap (λ (x : Machine). x.log) is) j w there
opening_moves P m n (move ∷ moves) all (mid, first, rest) j w is =
    no_append P m mid move (inr (All-head (IsOfOpening P) move moves all)) first j w (opening_moves P mid n moves (All-tail (IsOfOpening P) move moves all) rest j w is)

pub opened_log : (P : ℕ → Type 0) (m n : Machine) (moves : List Move) → All (IsOfOpening P) moves → Moves m moves n → (h : ℕ) (id : WriteId) → IsUnlistedAbove h id m.log → IsUnlistedAbove h id n.log
opened_log P m n moves all is h id none j w there above = none j w (opening_moves P m n moves all is j w there) above

module _ (shards : ℕ) (found_before : ℕ → Type 0) (before after : Moment) (h : ℕ) (id : WriteId) (told : Contains before.told id) (none : IsUnlistedAbove h id before.machine.log) where
  of_log : IsOfLog after.machine before.machine → IsUnlistedAbove h id after.machine.log
  of_log sub j w is above = none j w (sub j w is) above

  same : after.machine ≡ before.machine → IsUnlistedAbove h id after.machine.log
  same is = of_log (same_log before.machine after.machine (ap (λ (m : Machine). m.log) is))

  -- a write that is decided was not told
  decided : (r later : Running) (moves : List Move) → Decides shards found_before before r moves after later → Moves before.machine moves after.machine → IsUnlistedAbove h id after.machine.log
  decided r later moves d made =
      let one : Moves before.machine (append d.write ∷ []) after.machine = subst (λ (l : List Move). Moves before.machine l after.machine) d.moves_are made in
      let longer : after.machine.log ≡ before.machine.log ++ d.write ∷ [] = ap (λ (m : Machine). m.log) one.2 ∙ ap (λ (m : Machine). m.log) one.1.1 in
      λ j w is above same_id. ⊎_elim
      (λ old. none j w old above same_id)
      (λ new. d.not_told (subst (Contains before.told) (same_id ∙ ap (λ (e : Entry). e.id) (sym new.1)) told))
      (slice_get_push before.machine.log d.write w j (ap (λ (l : List Entry). slice_get l j) (sym longer) ∙ is))

  turned : (o : Option Running) (tells : List Told) → IfRunning shards found_before (Turns shards found_before) o before tells after → IsUnlistedAbove h id after.machine.log
  turned None tells is = same (ap (λ (x : Moment). x.machine) is.1)
  turned (Some r) tells is = ⊎_elim
      (λ d. decided r is.later is.moves d is.machine)
      (λ (nothing : DecidesNothing shards found_before before r is.moves is.later). of_log (quiet_moves (MayRise shards found_before before) before.machine after.machine is.moves nothing.moves_are is.machine))
      is.turned.decides

  cancelled : (o : Option Running) (tells : List Told) → IfRunning shards found_before (IsCancelled shards found_before) o before tells after → IsUnlistedAbove h id after.machine.log
  cancelled None tells is = same (ap (λ (x : Moment). x.machine) is.1)
  cancelled (Some r) tells is = same is.machine

  restarted : (n : NodeName) (tells : List Told) → Restarts shards found_before before n tells after → IsUnlistedAbove h id after.machine.log
  restarted coordinator tells is = of_log (opening_moves (MayRise shards found_before before) before.machine after.machine is.moves is.allowed.0 is.machine)
  restarted (shard s) tells is = same (subst (λ (l : List Move). Moves before.machine l after.machine) is.allowed.0 is.machine)

  -- whoever was told that an id is aborted was told so for good
  pub told_unlisted : (s : Step) (tells : List Told) → Takes shards found_before before s tells after → IsUnlistedAbove h id after.machine.log
  told_unlisted (start asked) tells (inl (asks, inl begins)) = same (ap (λ (x : Moment). x.machine) begins.4)
  told_unlisted (start asked) tells (inl (asks, inr full)) = same (ap (λ (x : Moment). x.machine) full.2)
  told_unlisted (start asked) tells (inr (not_asks, idle)) = same (ap (λ (x : Moment). x.machine) idle.1)
  told_unlisted (turn slot) tells is = turned (flow_at slot before.running) tells is
  told_unlisted (cancel slot) tells is = cancelled (flow_at slot before.running) tells is
  told_unlisted (restart n) tells (inl (there, is)) = restarted n tells is
  told_unlisted (restart n) tells (inr (not_there, idle)) = same (ap (λ (x : Moment). x.machine) idle.1)

-- what was named stays named
module _ (shards : ℕ) (found_before : ℕ → Type 0) (before after : Moment) where
  same_named : after.named ≡ before.named → (x : ℕ) → Contains before.named x → Contains after.named x
  same_named is x has = subst (λ (l : List ℕ). Contains l x) (sym is) has

  idle_named : (tells : List Told) → IsIdle shards found_before before tells after → (x : ℕ) → Contains before.named x → Contains after.named x
  idle_named tells is = same_named (ap (λ (m : Moment). m.named) is.1)

  turn_named : (o : Option Running) (tells : List Told) → IfRunning shards found_before (Turns shards found_before) o before tells after → (x : ℕ) → Contains before.named x → Contains after.named x
  turn_named None tells is = idle_named tells is
  turn_named (Some r) tells is = same_named is.named

  cancel_named : (o : Option Running) (tells : List Told) → IfRunning shards found_before (IsCancelled shards found_before) o before tells after → (x : ℕ) → Contains before.named x → Contains after.named x
  cancel_named None tells is = idle_named tells is
  cancel_named (Some r) tells is = same_named is.named

  pub step_named : (s : Step) (tells : List Told) → Takes shards found_before before s tells after → (x : ℕ) → Contains before.named x → Contains after.named x
  step_named (start asked) tells (inl (asks, inl begins)) = λ x has.
      subst (λ (l : List ℕ). Contains l x) (ap (λ (m : Moment). m.named) (sym begins.4)) (Contains-append_right (named_by asked) before.named x has)
  step_named (start asked) tells (inl (asks, inr full)) = same_named (ap (λ (m : Moment). m.named) full.2)
  step_named (start asked) tells (inr (not_asks, idle)) = idle_named tells idle
  step_named (turn slot) tells is = turn_named (flow_at slot before.running) tells is
  step_named (cancel slot) tells is = cancel_named (flow_at slot before.running) tells is
  step_named (restart n) tells (inl (there, is)) = same_named is.named
  step_named (restart n) tells (inr (not_there, idle)) = idle_named tells idle

module _ (shards : ℕ) (found_before : ℕ → Type 0) where
  pub named_on : (n : ℕ) (before after : Moment) (steps : List Step) (events : List Event) → IsRun shards found_before n before steps events after
      → (x : ℕ) → Contains before.named x → Contains after.named x
  named_on n before after [] events run x has = subst (λ (m : Moment). Contains m.named x) (sym run.1) has
  named_on n before after (s ∷ steps) events (mid, tells, rest, takes, run, is) x has =
      named_on (n + 1) mid after steps rest run x (step_named shards found_before before mid s tells takes x has)

-- a step, and a run, whose horizon may rise to some places is one whose horizon may rise to more
module _ (shards : ℕ) (these those : ℕ → Type 0) where
  step_more : (before after : Moment) (s : Step) (tells : List Told) → ((x : ℕ) → these x → Contains before.named x ⊎ those x) → Takes shards these before s tells after → Takes shards those before s tells after
  step_more before after (start asked) tells more is = is
  step_more before after (turn slot) tells more is = of_turn (flow_at slot before.running) is
    where
      of_turn : (o : Option Running) → IfRunning shards these (Turns shards these) o before tells after → IfRunning shards those (Turns shards those) o before tells after
      of_turn None idle = idle
      of_turn (Some r) turns = turns_more shards these those before (λ x may. ⊎_elim (λ named. inl named) (λ found. more x found) may) r tells after turns
  step_more before after (cancel slot) tells more is = of_cancel (flow_at slot before.running) is
    where
      of_cancel : (o : Option Running) → IfRunning shards these (IsCancelled shards these) o before tells after → IfRunning shards those (IsCancelled shards those) o before tells after
      of_cancel None idle = idle
      of_cancel (Some r) c = record { tells = c.tells; machine = c.machine; nodes = c.nodes; told_before = c.told_before; named = c.named; running = c.running; others_end = c.others_end }
  step_more before after (restart n) tells more (inl (there, is)) = inl (there, restarts_more shards these those before (λ x may. ⊎_elim (λ named. inl named) (λ found. more x found) may) n tells after is)
  step_more before after (restart n) tells more (inr (not_there, idle)) = inr (not_there, idle)

  pub run_more : (n : ℕ) (before after : Moment) (steps : List Step) (events : List Event) → ((x : ℕ) → these x → Contains before.named x ⊎ those x) → IsRun shards these n before steps events after
      → IsRun shards those n before steps events after
  run_more n before after [] events more run = run
  run_more n before after (s ∷ steps) events more (mid, tells, rest, takes, run, is) = (
    mid,
    tells,
    rest,
    step_more before mid s tells more takes,
    run_more (n + 1) mid after steps rest (λ x here. ⊎_elim (λ named. inl (step_named shards these before mid s tells takes x named)) (λ found. inr found) (more x here)) run,
    is,
  )
