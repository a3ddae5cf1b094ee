-- Openings and steps joined: each step keeps its promise, a list of them is a chain, and a store that is opened and takes a list lives.
use Rattle.std.proofs.Common.{◌≤◌, ℕ, List, map, sym, subst}
use Rattle.headline.proofs.Words.{Cancel, Restart, RunsAll, RunsKeep, StandsOver, Start, State, StepsKeep, Turn, care_for, closed_stores_rest, event_of, left, step_of}
use Rattle.turns.proofs.Chains.{chains_run}
use Rattle.headline.proofs.Restart.{restarts_keep}
use Rattle.headline.proofs.Whole.{openings_keep}
use Rattle.headline.proofs.AllTurns.{turns_keep}
use Rattle.headline.proofs.Cancels.{cancels_keep}
use Rattle.headline.proofs.Chains.{chains_keep}
use Rattle.headline.proofs.Starts.{cares_keep, requests_keep}
use Rattle.headline.specs.Headline.{Headline}

module _ {D : Type 0} (state : D → State) (honest : D → Type 0) (moment : D → ℕ) (left_since : D → ℕ → List ℕ → Type 0)
    (counts_now : (d : D) (t : ℕ) (c : List ℕ) → honest d → t ≤ moment d → left (state d) c → left_since d t c)
    (only_now : (d : D) (c : List ℕ) → honest d → left_since d (moment d) c → left (state d) c) where
  pub steps_keep : StepsKeep state honest moment left_since
  steps_keep (Start request) = requests_keep state honest moment left_since only_now request
  steps_keep (care_for care) = cares_keep state honest moment left_since only_now care
  steps_keep (Turn slot) = turns_keep state honest moment left_since counts_now only_now slot
  steps_keep (Cancel slot) = cancels_keep state honest moment left_since only_now slot
  steps_keep (Restart name) = restarts_keep state honest moment left_since counts_now only_now name

  pub runs_keep : RunsKeep state honest moment left_since
  runs_keep = chains_keep state honest moment left_since steps_keep

  pub lives : (store shards : ℕ) → Headline state honest moment left_since store shards
  lives store shards any devices opened new steps events m told some few count rests told_all is_opened whole took =
      let k = openings_keep state honest moment left_since counts_now only_now any devices store shards opened some few count is_opened in
      let kept = k.reopens m told rests told_all in
      let reopened = kept.0 in
      let stands = subst (λ (n : ℕ). StandsOver state honest n opened.shards k.later reopened.after) (sym is_opened.store_is)
      (subst (λ (n : ℕ). StandsOver state honest store n k.later reopened.after) (sym is_opened.shards_is) reopened.stands) in
      let all = runs_keep opened new k.later 0 steps events k.shows whole took reopened.after stands in
      let chain = subst (λ (n : ℕ). RunsAll state honest moment left_since n shards k.later 0 (map step_of steps) (map event_of events) all.later) is_opened.store_is
      (subst (λ (n : ℕ). RunsAll state honest moment left_since opened.store n k.later 0 (map step_of steps) (map event_of events) all.later) is_opened.shards_is all.runs) in
      let run = chains_run state honest moment left_since store shards k.later all.later 0 (map step_of steps) (map event_of events) chain reopened.after reopened.stands in
      let closed = closed_stores_rest state honest moment left_since store shards all.later run.0 run.2 in
      record {
        first = k.later;
        opened = reopened;
        inside = kept.1;
        last = all.later;
        shows = all.shows;
        chain = chain;
        after = run.0;
        run = run.1;
        stands = run.2;
        rests = closed.0;
        told_stays = closed.1;
      }
