-- A chain of promises is a run; and what a stop within a step or an opening leaves can be opened, with all that was told.
use Rattle.std.proofs.Common.{◌≡◌, ◌+◌, inl, inr, ⊎_elim, ℕ, List, [], ◌∷◌, ◌++◌, length, slice_index_or, refl, sym, ◌∙◌, ap, subst, arith, append_assoc, map}
use Rattle.turns.proofs.Words.{Event, State, Store}
use Rattle.turns.specs.Promises.{RunsAll, events_of}
use Rattle.turns.specs.StoreLaws.{ChainsJoin, ChainsRun, StoppedOpeningsRest, StoppedStepsRest}
use Rattle.stores.specs.Stores.{NamesHorizon, StandsOver}
use Rattle.turns.specs.Runs.{Told}
use Rattle.std.proofs.lemmas.Option.{slice_get-get_or}
use Rattle.stores.proofs.ShardStagesStands.{contained_from}
use Rattle.turns.proofs.RunLogs.{named_on, opened_log, run_more, told_unlisted}
use Rattle.turns.proofs.StoppedStores.{stopped_rests}

module _ {D : Type 0} (state : D → State) (honest : D → Type 0) (moment : D → ℕ) (left_since : D → ℕ → List ℕ → Type 0) (store shards : ℕ) where
  pub stopped_steps_rest : StoppedStepsRest state honest moment left_since store shards
  stopped_steps_rest old new now number step events stopped st ran stop =
      let is = stopped_rests state honest moment left_since store shards old.devices new.devices stopped now.machine ran.after.machine ran.inside stop
      st.stands.rests.is_log ran.stands.stands.rests.is_log st.stands.rests.horizon in (
        is.0,
        is.1,
        is.2,
        λ j d lt.
            let id = slice_index_or now.told j d in
            let verdict = st.stands.told j d lt in
            is.3 id verdict.given.epoch verdict.none
            (told_unlisted shards (NamesHorizon state honest store shards old now) now ran.after now.machine.horizon id (contained_from now.told j id (slice_get-get_or now.told j d lt)) verdict.none step ran.told ran.takes),
      )

  pub stopped_openings_rest : StoppedOpeningsRest state honest moment left_since store shards
  stopped_openings_rest old stopped new m told rests all reopened between stop =
      let is = stopped_rests state honest moment left_since store shards old new.devices stopped m reopened.after.machine between stop
      rests.rests.is_log reopened.stands.stands.rests.is_log rests.rests.horizon in (
        is.0,
        is.1,
        is.2,
        λ j d lt.
            let one = all j d lt in
            is.3 (slice_index_or told j d) one.given one.none
            (opened_log _ m reopened.after.machine reopened.opened.moves reopened.opened.allowed reopened.opened.machine m.horizon (slice_index_or told j d) one.none),
      )

  pub chains_run : ChainsRun state honest moment left_since store shards
  chains_run old new number [] events (none, same) now st = (
    now,
    (none, refl),
    subst (λ (s : Store D). StandsOver state honest store shards s now) (sym same) st,
    λ x named. inr (subst (λ (s : Store D). NamesHorizon state honest store shards s now x) same named),
  )
  chains_run old new number (step ∷ steps) events (mid, first, rest, one, all, is) now st =
      let ran = one now st in
      let further = chains_run mid new (number + 1) steps rest all ran.after ran.stands in
      let before = NamesHorizon state honest store shards old now in (
        further.0,
        (
          ran.after,
          ran.told,
          rest,
          ran.takes,
          run_more shards (NamesHorizon state honest store shards mid ran.after) before (number + 1) ran.after further.0 steps rest ran.named further.1,
          is ∙ ap (λ (l : List Event). l ++ rest) ran.tells,
        ),
        further.2,
        λ x named. ⊎_elim (λ asked. inl asked) (λ found. ⊎_elim
            (λ asked. inl (named_on shards (NamesHorizon state honest store shards mid ran.after) (number + 1) ran.after further.0 steps rest further.1 x asked))
            (λ earlier. inr earlier)
            (ran.named x found)) (further.3 x named),
      )

  pub chains_join : ChainsJoin state honest moment left_since store shards
  chains_join old mid new number [] more events others (none, same) second =
      subst (λ (e : List Event). RunsAll state honest moment left_since store shards old number more (e ++ others) new) (sym none)
      (subst (λ (s : Store D). RunsAll state honest moment left_since store shards s number more others new) same
      (subst (λ (k : ℕ). RunsAll state honest moment left_since store shards mid k more others new) (let is : number + 0 ≡ number = omega arith in is) second))
  chains_join old mid new number (step ∷ steps) more events others (next, first, rest, one, all, is) second = (
    next,
    first,
    rest ++ others,
    one,
    chains_join next mid new (number + 1) steps more rest others all
        (subst (λ (k : ℕ). RunsAll state honest moment left_since store shards mid k more others new) (let e : number + length (step ∷ steps) ≡ number + 1 + length steps = omega arith in e) second),
    ap (λ (l : List Event). l ++ others) is ∙ append_assoc first rest others,
  )

-- what was told, by its events
pub told_of_events : (n : ℕ) (told : List Told) → map (λ (e : Event). e.told) (events_of n told) ≡ told
told_of_events n [] = refl
told_of_events n (t ∷ told) = ap (λ (l : List Told). t ∷ l) (told_of_events n told)

pub same_told : (n : ℕ) (a b : List Told) → events_of n a ≡ events_of n b → b ≡ a
same_told n a b is = sym (told_of_events n b) ∙ ap (map (λ (e : Event). e.told)) (sym is) ∙ told_of_events n a
