-- Cares leave the list of a store as it is.
use Rattle.std.proofs.Common.{◌≡◌, ◌⊎◌, inl, inr, ⊎_elim, ℕ, ◌+◌, true≢false, false, List, [], ◌∷◌, ◌++◌, Contains, Option, Some, None, refl, sym, ◌∙◌, ap, subst}
use Rattle.std.specs.List.{AllByRecursion}
use Rattle.std.proofs.lemmas.List.Elements.{Contains-append_right}
use Rattle.cluster.specs.Runs.{TookAll}
use Rattle.cluster.specs.Steps.{Takes}
use Rattle.reshard_laws.proofs.Words.{answered, Asked, began, Begins, care_for, ended, EndsAs, events_of, flow_at, Flush, HasSameList, IfRunning, IsAsked, IsIdle, KeepsList, Moment, NamesHorizon, replaced, Running, Shows, StandsOver, State, StepsKeep, Store, Told, Turn, Turns, What, WorldView, WriteId}
use Rattle.cluster.specs.declared.event.Event.{Event as AnyEvent}
use Rattle.cluster.specs.declared.step.Step.{Step}
use Rattle.cluster.specs.declared.step.Step.TheVariants.{Start, Cancel, Restart}
use Rattle.headline.proofs.PastWrites.{past_writes_stay}
use Rattle.headline.specs.Promised.{Keeps}
use Rattle.headline.specs.Told.{IsWholeStep, all_told, asked_for, step_of}
use Rattle.names.specs.declared.care.Care.{Care}
use Rattle.names.specs.declared.care.Care.TheVariants.{Checkpoint, Learn, Resolve, Raise, Collect}
use Rattle.reshard.specs.Caring.{IsCaring, IsOfClosing}
use Rattle.stores.specs.Flows.{named_by}
use Rattle.stores.specs.Moments.{is_write}
use Rattle.turns.specs.Promises.{Ran, RunsOne}
use Rattle.turns.specs.Runs as runs
use Rattle.turns.specs.Runs.{Decides, DecidesNothing, EndsQuietly, MayRise, came_up, goes_on, refuses, told_by}
use Rattle.reshard_laws.proofs.Flows.{Each, each_at, each_ended, each_replaced}
use Rattle.reshard_laws.proofs.Machines.{GoesQuietly, goes_nowhere, goes_then, quiet_moves, stays, stays_then}

-- ---- what a care asks for

asks_no_write : (care : Care) → is_write (asked_for care) ≡ false
asks_no_write (Flush node) = refl
asks_no_write (Checkpoint node) = refl
asks_no_write (Learn shard) = refl
asks_no_write (Resolve shard) = refl
asks_no_write (Raise place) = refl
asks_no_write (Collect shard) = refl

names_none : (care : Care) → IsOfClosing care → named_by (asked_for care) ≡ []
names_none (Flush node) is = refl
names_none (Checkpoint node) is = absurd is
names_none (Learn shard) is = refl
names_none (Resolve shard) is = refl
names_none (Raise place) is = absurd is
names_none (Collect shard) is = refl

pub whole_care : (step : Step) → IsCaring step → IsWholeStep step
whole_care (Start request) is = absurd is
whole_care (Turn slot) is = tt
whole_care (Cancel slot) is = absurd is
whole_care (care_for care) is = tt
whole_care (Restart name) is = absurd is

abbrev pub IsNoWrite : Asked → Type 0
IsNoWrite asked = is_write asked ≡ false

abbrev pub AreNoWrites : List Running → Type 0
AreNoWrites = Each IsNoWrite

-- ---- one step, over moments alone

module _ (shards : ℕ) (found : ℕ → Type 0) (before : Moment) where
  abbrev pub May : ℕ → Type 0
  May = MayRise shards found before

  -- it leaves the list, and no flow that writes begins
  pub record Goes (after : Moment) : Type 0 where
    pub quietly : GoesQuietly May before.machine after.machine
    pub no_writes : AreNoWrites after.running
    pub named : after.named ≡ before.named
    pub told : (id : WriteId) → Contains before.told id → Contains after.told id

  still : (after : Moment) → AreNoWrites before.running → after ≡ before → Goes after
  still after none is = subst Goes (sym is) (record { quietly = goes_nowhere May before.machine before.machine refl; no_writes = none; named = refl; told = λ id has. has })

  same_told : (after : Moment) → after.told ≡ before.told → (id : WriteId) → Contains before.told id → Contains after.told id
  same_told after is id has = subst (λ (l : List WriteId). Contains l id) (sym is) has

  module _ (slot : ℕ) (after : Moment) (r : Running) (tells : List Told) (at : flow_at slot before.running ≡ Some r) (t : Turns shards found before r tells after) where
    -- whatever was so of what each flow was asked, and of the ids that were told
    module _ (P : Asked → Type 0) (each : Each P before.running) where
      abbrev Still : Type 0
      Still = Each P after.running × ((id : WriteId) → Contains before.told id → Contains after.told id)

      is_asked : P t.later.asked
      is_asked = subst P (sym t.turned.asked) (each_at P slot before.running r each at)

      goes_further : after.running ≡ replaced t.later before.running → Each P after.running
      goes_further is = subst (Each P) (sym is) (each_replaced P t.later before.running is_asked each)

      gone : after.running ≡ ended t.later.slot before.running → Each P after.running
      gone is = subst (Each P) (sym is) (each_ended P t.later.slot before.running each)

      by_told : (x : Told) → EndsAs shards found before t.later after x → Still
      by_told (began s) ends = absurd ends
      by_told goes_on ends = (goes_further ends.0, same_told after ends.1)
      by_told (answered a) ends = (gone ends.1, λ id has. subst (λ (l : List WriteId). Contains l id) (sym ends.2) (Contains-append_right (told_by a) before.told id has))
      by_told came_up ends = absurd ends
      by_told (refuses e) ends = (gone ends.1, same_told after ends.2)

      quietly_told : EndsQuietly shards found before t.later after → Still
      quietly_told ends = (⊎_elim (λ further. goes_further further) (λ is. gone is) ends.1, same_told after ends.0)

      pub each_turning : Still
      each_turning = ⊎_elim (λ loud. by_told loud.1.0 loud.1.2) (λ silent. quietly_told silent.2) t.tells

    goes_turning : AreNoWrites before.running → Goes after
    goes_turning none = record {
      quietly = ⊎_elim
          (λ (d : Decides shards found before r t.moves after t.later). absurd (true≢false (sym (ap is_write d.own) ∙ each_at IsNoWrite slot before.running r none at)))
          (λ (nothing : DecidesNothing shards found before r t.moves t.later). quiet_moves May before.machine after.machine t.moves nothing.moves_are t.machine)
          t.turned.decides;
      no_writes = (each_turning IsNoWrite none).0;
      named = t.named;
      told = (each_turning IsNoWrite none).1;
    }

  pub each_turned : (P : Asked → Type 0) (slot : ℕ) (after : Moment) → Each P before.running → (tells : List Told) (o : Option Running) → flow_at slot before.running ≡ o
      → IfRunning shards found (Turns shards found) o before tells after → Each P after.running
  each_turned P slot after each tells None at idle = subst (λ (m : Moment). Each P m.running) (sym idle.1) each
  each_turned P slot after each tells (Some r) at t = (each_turning slot after r tells at t P each).0

  turned : (slot : ℕ) (after : Moment) → AreNoWrites before.running → (tells : List Told) (o : Option Running) → flow_at slot before.running ≡ o → IfRunning shards found (Turns shards found) o before tells after → Goes after
  turned slot after none tells None at idle = still after none idle.1
  turned slot after none tells (Some r) at t = goes_turning slot after r tells at t none

  started : (care : Care) (after : Moment) → IsOfClosing care → AreNoWrites before.running → (tells : List Told)
      → (IsAsked shards (asked_for care) × Begins shards found before (asked_for care) tells after) ⊎ ((IsAsked shards (asked_for care) → ⊥) × IsIdle shards found before tells after) → Goes after
  started care after is none tells (inl (asks, inl b)) = subst Goes (sym b.4) (record {
    quietly = goes_nowhere May before.machine before.machine refl;
    no_writes = (asks_no_write care, none);
    named = ap (λ (l : List ℕ). l ++ before.named) (names_none care is);
    told = λ id has. has;
  })
  started care after is none tells (inl (asks, inr full)) = still after none full.2
  started care after is none tells (inr (asks_not, idle)) = still after none idle.1

  goes : (step : Step) (after : Moment) → IsCaring step → AreNoWrites before.running → (tells : List Told) → runs.Takes shards found before (step_of step) tells after → Goes after
  goes (Start request) after is none tells takes = absurd is
  goes (Turn slot) after is none tells takes = turned slot after none tells (flow_at slot before.running) refl takes
  goes (Cancel slot) after is none tells takes = absurd is
  goes (care_for care) after is none tells takes = started care after is none tells takes
  goes (Restart name) after is none tells takes = absurd is

-- ---- steps of a store, one after another

module _ {D : Type 0} (state : D → State) (honest : D → Type 0) (moment : D → ℕ) (left_since : D → ℕ → List ℕ → Type 0) (keep : StepsKeep state honest moment left_since) (store shards : ℕ) (s : Store D) (now : Moment) where
  abbrev pub Rises : ℕ → Type 0
  Rises x = Contains now.named x ⊎ NamesHorizon state honest store shards s now x

  -- what a store that shows the world has kept so far
  pub record Cared (w : WorldView D) : Type 0 where
    pub keeps : KeepsList state honest moment left_since store shards s now w
    pub no_writes : AreNoWrites keeps.after.running
    pub named : (x : ℕ) → Contains keeps.after.named x → Contains now.named x
    pub names : (x : ℕ) → NamesHorizon state honest store shards keeps.later keeps.after x → Rises x

  abbrev pub nothing_yet : (w : WorldView D) → Shows w s → StandsOver state honest store shards s now → w.store ≡ store → w.shards ≡ shards → AreNoWrites now.running → Cared w
  nothing_yet w shows stands store_is shards_is none = record {
    keeps = record {
      later = s;
      shows = shows;
      store_is = store_is;
      shards_is = shards_is;
      steps = [];
      after = now;
      ran = (refl, refl);
      stands = stands;
      same = stays now.machine;
      horizon = inl refl;
      told = λ id has. has;
      past = λ id past. past;
    };
    no_writes = none;
    named = λ x has. has;
    names = λ x names. inr names;
  }

  module _ (old new : WorldView D) (c : Cared old) (step : Step) (told : Option What) (is : IsCaring step) (takes : Takes state honest moment left_since old step told new) where
    abbrev pub before : KeepsList state honest moment left_since store shards s now old
    before = c.keeps

    abbrev pub kept : Keeps state honest moment left_since old before.later step told new
    kept = keep step old new before.later told before.shows (whole_care step is) takes

    pub run : RunsOne state honest moment left_since store shards before.later 0 (step_of step) (events_of 0 (all_told told)) kept.later
    run = subst (λ (n : ℕ). RunsOne state honest moment left_since n shards before.later 0 (step_of step) (events_of 0 (all_told told)) kept.later) before.store_is
        (subst (λ (n : ℕ). RunsOne state honest moment left_since old.store n before.later 0 (step_of step) (events_of 0 (all_told told)) kept.later) before.shards_is (kept.runs 0))

    abbrev pub ran : Ran state honest moment left_since store shards before.later before.after 0 (step_of step) (events_of 0 (all_told told)) kept.later
    ran = run before.after before.stands

    pub here : Goes shards (NamesHorizon state honest store shards before.later before.after) before.after ran.after
    here = goes shards (NamesHorizon state honest store shards before.later before.after) before.after step ran.after is c.no_writes ran.told ran.takes

    rises_before : (x : ℕ) → MayRise shards (NamesHorizon state honest store shards before.later before.after) before.after x → Rises x
    rises_before x may = ⊎_elim (λ named. inl (c.named x named)) (λ names. c.names x names) may

    pub on_list : GoesQuietly Rises now.machine ran.after.machine
    on_list = goes_then Rises now.machine before.after.machine ran.after.machine (record { same = before.same; horizon = before.horizon })
        (record { same = here.quietly.same; horizon = ⊎_elim (λ still. inl still) (λ rose. inr (rises_before ran.after.machine.horizon rose)) here.quietly.horizon })

    -- the list is as it was at the step before
    pub same_list : HasSameList before.after.machine ran.after.machine
    same_list = here.quietly.same

    abbrev pub one_step : Cared new
    one_step = record {
      keeps = record {
        later = kept.later;
        shows = kept.shows before.after (subst (λ (n : ℕ). StandsOver state honest n old.shards before.later before.after) (sym before.store_is)
            (subst (λ (n : ℕ). StandsOver state honest store n before.later before.after) (sym before.shards_is) before.stands));
        store_is = kept.store_is ∙ before.store_is;
        shards_is = kept.shards_is ∙ before.shards_is;
        steps = step_of step ∷ before.steps;
        after = ran.after;
        ran = (before.later, before.after, events_of 0 (all_told told), before.ran, ran, same_list, refl);
        stands = ran.stands;
        same = on_list.same;
        horizon = on_list.horizon;
        told = λ id has. here.told id (before.told id has);
        past = λ id past. past_writes_stay state honest moment left_since store shards before.later kept.later before.after 0 (step_of step) (events_of 0 (all_told told)) id before.stands ran (before.past id past);
      };
      no_writes = here.no_writes;
      named = λ x has. c.named x (subst (λ (l : List ℕ). Contains l x) here.named has);
      names = λ x names. ⊎_elim (λ named. inl (c.named x (subst (λ (l : List ℕ). Contains l x) here.named named))) (λ earlier. c.names x earlier) (ran.named x names);
    }

  -- cares from there on, which have the list still
  abbrev pub CaredOn : (old : WorldView D) → Cared old → WorldView D → Type 0
  CaredOn old c new = (d : Cared new) × HasSameList c.keeps.after.machine d.keeps.after.machine

  pub all_steps : (number : ℕ) (steps : List Step) (events : List AnyEvent) (old new : WorldView D) → AllByRecursion IsCaring steps → TookAll state honest moment left_since old number steps events new → (c : Cared old) → CaredOn old c new
  all_steps number [] events old new caring took c = subst (CaredOn old c) (sym took.1) (c, stays c.keeps.after.machine)
  all_steps number (step ∷ steps) events old new caring (mid, first, rest, one, took, is) c =
      let d = one_step old mid c step one.0 caring.0 one.1 in
      let e = all_steps (number + 1) steps rest mid new caring.1 took d in
      (e.0, stays_then c.keeps.after.machine d.keeps.after.machine e.0.keeps.after.machine (same_list old mid c step one.0 caring.0 one.1) e.1)
