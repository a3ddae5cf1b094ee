-- If each step of a world keeps the promise of one step, a list of steps keeps that of a chain.
use Rattle.std.proofs.Common.{◌≡◌, ◌+◌, ◌++◌, ℕ, List, [], ◌∷◌, map, Option, Some, None, refl, sym, ◌∙◌, ap, subst}
use Rattle.std.proofs.lemmas.List.{map-append}
use Rattle.std.proofs.lemmas.List.Elements.{All-head, All-tail}
use Rattle.headline.proofs.Words.{Event, IsWholeStep, Moment, RunsAll, RunsKeep, Shows, StandsOver, State, StepsKeep, Store, What, WorldView, all_told, event_of, events_of, step_of}
use Rattle.turns.specs.Runs as runs
use Rattle.cluster.specs.Steps.{events_of as told_events}

-- what one step tells, as the laws say it
one_told : (number : ℕ) (told : Option What) → map event_of (told_events number told) ≡ events_of number (all_told told)
one_told number None = refl
one_told number (Some what) = refl

module _ {D : Type 0} (state : D → State) (honest : D → Type 0) (moment : D → ℕ) (left_since : D → ℕ → List ℕ → Type 0) (steps_keep : StepsKeep state honest moment left_since) where
  abbrev Stand : WorldView D → Store D → Moment → Type 0
  Stand w s now = StandsOver state honest w.store w.shards s now

  pub chains_keep : RunsKeep state honest moment left_since
  chains_keep old new s number [] events shows whole took now standing = record {
    later = s;
    shows = subst (λ (w : WorldView D). Shows w s) (sym took.1) shows;
    runs = (ap (λ (es : List Event). map event_of es) took.0, refl);
  }
  chains_keep old new s number (step ∷ steps) events shows whole (mid, first, rest, (told, takes, first_is), took, events_are) now standing =
      let k = steps_keep step old mid s told shows (All-head IsWholeStep step steps whole) takes in
      let ran = k.runs number now standing in
      let stands : Stand mid k.later ran.after =
      subst (λ (n : ℕ). StandsOver state honest n mid.shards k.later ran.after) (sym k.store_is)
      (subst (λ (n : ℕ). StandsOver state honest old.store n k.later ran.after) (sym k.shards_is) ran.stands) in
      let further = chains_keep mid new k.later (number + 1) steps rest (k.shows now standing) (All-tail IsWholeStep step steps whole) took ran.after stands in
      record {
        later = further.later;
        shows = further.shows;
        runs = (
          k.later,
          events_of number (all_told told),
          map event_of rest,
          k.runs number,
          subst (λ (n : ℕ). RunsAll state honest moment left_since n old.shards k.later (number + 1) (map step_of steps) (map event_of rest) further.later) k.store_is
              (subst (λ (n : ℕ). RunsAll state honest moment left_since mid.store n k.later (number + 1) (map step_of steps) (map event_of rest) further.later) k.shards_is further.runs),
          ap (λ (es : List Event). map event_of es) events_are ∙ map-append event_of first rest ∙ ap (λ (es : List runs.Event). es ++ map event_of rest) (ap (λ (es : List Event). map event_of es) first_is ∙ one_told number told),
        );
      }
