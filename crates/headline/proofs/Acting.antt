-- If each step keeps its promise and each script keeps what a store stands for, so do acts of both kinds.
use Rattle.std.proofs.Common.{◌≡◌, ◌≤◌, ◌+◌, ◌++◌, inr, ℕ, List, [], ◌∷◌, map, Option, refl, sym, ◌∙◌, ap, subst}
use Rattle.std.proofs.lemmas.List.Elements.{All-head, All-tail}
use Rattle.device.specs.Device.{State, left}
use Rattle.device.specs.declared.tear.Tear.{Tear}
use Rattle.laws.specs.Nodes.{coordinator}
use Rattle.stores.specs.Stores.{NamesHorizon, StandsOver}
use Rattle.turns.specs.Promises.{events_of}
use Rattle.turns.specs.Runs as runs
use Rattle.turns.proofs.RunLogs.{run_more}
use Rattle.turns.proofs.ClosedStoreRests.{closed_stores_rest}
use Rattle.cluster.specs.Worlds.{WorldView}
use Rattle.cluster.specs.declared.event.What.{What}
use Rattle.headline.specs.Acts.{ActedHeadline, ActsKeep, KeepsActs, numbered, sets_script, steps_in, takes_step}
use Rattle.headline.specs.Promised.{StepsKeep}
use Rattle.headline.specs.Shown.{Shows}
use Rattle.headline.specs.Told.{IsWholeStep, all_told, step_of}
use Rattle.headline.proofs.DeviceScripts.{scripts_keep}
use Rattle.headline.proofs.Joined.{steps_keep}
use Rattle.headline.proofs.PastWrites.{past_writes_stay}
use Rattle.headline.proofs.Whole.{openings_keep}

module _ {D : Type 0} (set : D → ℕ → Tear → Type 0) (state : D → State) (honest : D → Type 0) (moment : D → ℕ) (left_since : D → ℕ → List ℕ → Type 0) (keep : StepsKeep state honest moment left_since) where
  pub acts_keep : ActsKeep set state honest moment left_since
  acts_keep old new s now number [] told shows whole acted standing = record {
    later = s;
    shows = subst (λ (w : WorldView D). Shows w s) (sym acted.1) shows;
    store_is = ap (λ (w : WorldView D). w.store) acted.1;
    shards_is = ap (λ (w : WorldView D). w.shards) acted.1;
    chain = (acted.0, refl);
    after = now;
    run = (ap (λ (ts : List (Option What)). numbered number ts) acted.0, refl);
    stands = standing;
    past = λ id is. is;
  }
  acts_keep old new s now number (takes_step step ∷ acts) told shows whole (mid, first, rest, takes, acted, told_is) standing =
      let k = keep step old mid s first shows (All-head IsWholeStep step (steps_in acts) whole) takes in
      let ran = k.runs number now standing in
      let stands : StandsOver state honest mid.store mid.shards k.later ran.after =
      subst (λ (n : ℕ). StandsOver state honest n mid.shards k.later ran.after) (sym k.store_is)
      (subst (λ (n : ℕ). StandsOver state honest old.store n k.later ran.after) (sym k.shards_is) ran.stands) in
      let behind = acts_keep mid new k.later ran.after (number + 1) acts rest (k.shows now standing) (All-tail IsWholeStep step (steps_in acts) whole) acted stands in
      let further = subst (λ (n : ℕ). KeepsActs set state honest moment left_since n old.shards k.later ran.after (number + 1) acts rest new) k.store_is
      (subst (λ (n : ℕ). KeepsActs set state honest moment left_since mid.store n k.later ran.after (number + 1) acts rest new) k.shards_is behind) in
      record {
        later = further.later;
        shows = further.shows;
        store_is = further.store_is;
        shards_is = further.shards_is;
        chain = (k.later, first, rest, k.runs number, further.chain, told_is);
        after = further.after;
        run = (
          ran.after,
          ran.told,
          numbered (number + 1) rest,
          ran.takes,
          run_more old.shards (NamesHorizon state honest old.store old.shards k.later ran.after) (NamesHorizon state honest old.store old.shards s now) (number + 1) ran.after further.after
              (map step_of (steps_in acts)) (numbered (number + 1) rest) ran.named further.run,
          ap (λ (ts : List (Option What)). numbered number ts) told_is ∙ ap (λ (es : List runs.Event). es ++ numbered (number + 1) rest) ran.tells,
        );
        stands = further.stands;
        past = λ id is. further.past id (past_writes_stay state honest moment left_since old.store old.shards s k.later now number (step_of step) (events_of number (all_told first)) id standing ran is);
      }
  acts_keep old new s now number (sets_script name bank n tear ∷ acts) told shows whole (mid, is_set, acted) standing =
      let k = scripts_keep set state honest moment left_since bank n tear name old mid s shows is_set in
      let store_is : mid.store ≡ old.store = ap (λ (w : WorldView D). w.store) is_set.rest in
      let shards_is : mid.shards ≡ old.shards = ap (λ (w : WorldView D). w.shards) is_set.rest in
      let stands : StandsOver state honest mid.store mid.shards k.later now =
      subst (λ (n : ℕ). StandsOver state honest n mid.shards k.later now) (sym store_is)
      (subst (λ (n : ℕ). StandsOver state honest old.store n k.later now) (sym shards_is) (k.stands now standing)) in
      let behind = acts_keep mid new k.later now number acts told k.shows whole acted stands in
      let further = subst (λ (n : ℕ). KeepsActs set state honest moment left_since n old.shards k.later now number acts told new) store_is
      (subst (λ (n : ℕ). KeepsActs set state honest moment left_since mid.store n k.later now number acts told new) shards_is behind) in
      record {
        later = further.later;
        shows = further.shows;
        store_is = further.store_is;
        shards_is = further.shards_is;
        chain = (k.later, record { stands = k.stands; named = k.named }, further.chain);
        after = further.after;
        run = run_more old.shards (NamesHorizon state honest old.store old.shards k.later now) (NamesHorizon state honest old.store old.shards s now) number now further.after
            (map step_of (steps_in acts)) (numbered number told) (λ x names. inr (k.named now x standing names)) further.run;
        stands = further.stands;
        past = λ id is. further.past id (record {
          given = record { epoch = λ found left. is.given.epoch found (k.leaves now coordinator found standing left); now = is.given.now };
          unlisted = is.unlisted;
          unheld = is.unheld;
        });
      }

module _ {D : Type 0} (set : D → ℕ → Tear → Type 0) (state : D → State) (honest : D → Type 0) (moment : D → ℕ) (left_since : D → ℕ → List ℕ → Type 0)
    (counts_now : (d : D) (t : ℕ) (c : List ℕ) → honest d → t ≤ moment d → left (state d) c → left_since d t c)
    (only_now : (d : D) (c : List ℕ) → honest d → left_since d (moment d) c → left (state d) c) where
  pub lives_acting : (store shards : ℕ) → ActedHeadline set state honest moment left_since store shards
  lives_acting store shards any devices opened new acts told m ids some few count rests told_all is_opened whole acted =
      let k = openings_keep state honest moment left_since counts_now only_now any devices store shards opened some few count is_opened in
      let kept = k.reopens m ids rests told_all in
      let reopened = kept.0 in
      let stands = subst (λ (n : ℕ). StandsOver state honest n opened.shards k.later reopened.after) (sym is_opened.store_is)
      (subst (λ (n : ℕ). StandsOver state honest store n k.later reopened.after) (sym is_opened.shards_is) reopened.stands) in
      let all = acts_keep set state honest moment left_since (steps_keep state honest moment left_since counts_now only_now) opened new k.later reopened.after 0 acts told k.shows whole acted stands in
      let over = subst (λ (n : ℕ). KeepsActs set state honest moment left_since n shards k.later reopened.after 0 acts told new) is_opened.store_is
      (subst (λ (n : ℕ). KeepsActs set state honest moment left_since opened.store n k.later reopened.after 0 acts told new) is_opened.shards_is all) in
      let closed = closed_stores_rest state honest moment left_since store shards over.later over.after over.stands in
      record {
        first = k.later;
        shows_first = k.shows;
        reopened = reopened;
        inside = kept.1;
        acted = over;
        rests = closed.0;
        told_stays = closed.1;
      }
