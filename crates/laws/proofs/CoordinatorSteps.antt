-- One more record at the coordinator.
use Rattle.std.proofs.Common.{◌≡◌, ⊎_elim, ℕ, ◌+◌, ◌<◌, ◌≤◌, List, [], ◌∷◌, ◌++◌, length, take, sym, ◌∙◌, ap, subst, arith}
use Rattle.std.proofs.lemmas.List.{drop-append-le, length-take-le, length_push, take-append-le, take_all}
use Rattle.laws.proofs.Words.{CoordinatorMeans, CoordinatorState, Decision, Entry, Epoch, Horizon, IsCoordinatorImage, IsMeaning, Means, Record, coordinator_node, coordinator_state, end_of, shard_state}
use Rattle.records.specs.Coordinators.{MayOpenAgain, MayRaise, coordinator_step}
use Rattle.laws.specs.Coordinators.{AreGiven}
use Rattle.laws.specs.CoordinatorLaws.{DecisionsRest, FlushesRest, HorizonsRest, IsLearnedInAll, MayBeListed, OpeningsRest, RestartsRest}
use Rattle.laws.proofs.CoordinatorStates.{coordinator_last, coordinator_push, end_is_length}
use Rattle.laws.proofs.DecisionStep.{listed_means}
use Rattle.laws.proofs.Logs.{log_push, log_taken}
use Rattle.tuples.proofs.Lists.{slice_get_push}

-- the longer list means what its last record makes of the rest
pushed : (store shards : ℕ) (log : List Entry) (h : ℕ) (records : List Record) (r : Record) (shard : ℕ → List Record → Type 0) → IsCoordinatorImage (coordinator_node store shards) (records ++ r ∷ [])
    → CoordinatorMeans log h (coordinator_step (coordinator_state records) r)
    → ((s : ℕ) (found : List Record) → s < shards → shard s found → IsMeaning store shards s log h (coordinator_step (coordinator_state records) r) found)
    → Means store shards log h (records ++ r ∷ []) shard
pushed store shards log h records r shard image decided each = record {
  image = image;
  decided = subst (CoordinatorMeans log h) (sym (coordinator_push records r)) decided;
  each_shard = λ s found lt stop. subst (λ (c : CoordinatorState). IsMeaning store shards s log h c found) (sym (coordinator_push records r)) (each s found lt stop);
}

given_push : (epoch : ℕ) (log : List Entry) (w : Entry) → AreGiven epoch log → w.id.epoch ≤ epoch → AreGiven epoch (log ++ w ∷ [])
given_push epoch log w given le j v is = ⊎_elim (λ old. given j v old) (λ new. subst (λ (u : Entry). u.id.epoch ≤ epoch) new.1 le) (slice_get_push log w v j is)

decided_means : (store shards : ℕ) (log : List Entry) (h : ℕ) (records : List Record) (place : ℕ) (w : Entry) (shard : ℕ → List Record → Type 0)
    → IsCoordinatorImage (coordinator_node store shards) (records ++ Decision place w ∷ []) → MayBeListed shards log records shard w
    → Means store shards log h records shard → Means store shards (log ++ w ∷ []) h (records ++ Decision place w ∷ []) shard
unfolding coordinator_step
decided_means store shards log h records place w shard image may m = pushed store shards (log ++ w ∷ []) h records (Decision place w) shard image
    (record {
      decisions = ap (λ (l : List Entry). l ++ w ∷ []) m.decided.decisions ∙ sym (drop-append-le (coordinator_state records).base log (w ∷ []) (omega (arith, m.decided.base, m.decided.within)));
      base = m.decided.base;
      above = m.decided.above;
      within = omega (arith, m.decided.within, length_push log w);
      given = given_push (coordinator_state records).epoch log w m.decided.given may.given;
    })
    (λ s found lt stop.
    let was = m.each_shard s found lt stop in
    record { image = was.image; means = listed_means shards s log w (coordinator_state records).horizon h (shard_state found) (may.prepared s found lt stop) was.means; given = was.given })

pub decisions_rest : (old new : List Record → Type 0) (shard : ℕ → List Record → Type 0) → DecisionsRest old new shard
decisions_rest old new shard store shards log kept h records place w step whole may = (
  record {
    is_log = log_push log w step.rests.is_log may.whole may.new may.conditions;
    horizon = step.rests.horizon;
    within = omega (arith, step.rests.within, length_push log w);
    each = λ found stop. ⊎_elim
        (λ before.
        let was = step.rests.each found before in
        let same : take was.0 (log ++ w ∷ []) ≡ take was.0 log = take-append-le was.0 log (w ∷ []) was.2 in
        (was.0, was.1, omega (arith, was.2, length_push log w), subst (λ (l : List Entry). Means store shards l h found shard) (sym same) was.3))
        (λ after.
        let all : take (length log + 1) (log ++ w ∷ []) ≡ log ++ w ∷ [] = take_all (length log + 1) (log ++ w ∷ []) (omega (arith, length_push log w)) in (
          length log + 1,
          omega (arith, step.rests.within),
          omega (arith, length_push log w),
          subst (λ (l : List Entry). Means store shards l h found shard) (sym all)
              (subst (λ (f : List Record). Means store shards (log ++ w ∷ []) h f shard) (sym after) means),
        ))
        (step.adds found stop);
  },
  means,
)
  where
    means : Means store shards (log ++ w ∷ []) h (records ++ Decision place w ∷ []) shard
    means = decided_means store shards log h records place w shard step.image may whole

-- an opening changes no decision
pub opened_means : (store shards : ℕ) (log : List Entry) (h : ℕ) (records : List Record) (epoch : ℕ) (shard : ℕ → List Record → Type 0)
    → IsCoordinatorImage (coordinator_node store shards) (records ++ Epoch epoch store shards 255 ∷ [])
    → Means store shards log h records shard → Means store shards log h (records ++ Epoch epoch store shards 255 ∷ []) shard
unfolding coordinator_step
opened_means store shards log h records epoch shard image m =
    let may : MayOpenAgain (coordinator_node store shards) (coordinator_state records) epoch store shards 255 = coordinator_last (coordinator_node store shards) records (Epoch epoch store shards 255) image in
    let later : (coordinator_state records).epoch ≤ epoch = omega (arith, may.next) in
    pushed store shards log h records (Epoch epoch store shards 255) shard image
    (record {
      decisions = m.decided.decisions;
      base = m.decided.base;
      above = m.decided.above;
      within = m.decided.within;
      given = λ j w is. let was = m.decided.given j w is in omega (arith, later, was);
    })
    (λ s found lt stop.
    let was = m.each_shard s found lt stop in
    record { image = was.image; means = was.means; given = λ id w is. let le = was.given id w is in omega (arith, later, le) })

pub openings_rest : (old new : List Record → Type 0) (shard : ℕ → List Record → Type 0) → OpeningsRest old new shard
openings_rest old new shard store shards log kept h records epoch step = record {
  is_log = step.rests.is_log;
  horizon = step.rests.horizon;
  within = step.rests.within;
  each = λ found stop. ⊎_elim
      (λ before. step.rests.each found before)
      (λ after.
      let was = step.rests.each records step.here in (
        was.0,
        was.1,
        was.2,
        subst (λ (f : List Record). Means store shards (take was.0 log) h f shard) (sym after)
            (opened_means store shards (take was.0 log) h records epoch shard step.image was.3),
      ))
      (step.adds found stop);
}

pub restarts_rest : (old new : List Record → Type 0) (shard : ℕ → List Record → Type 0) → RestartsRest old new shard
restarts_rest old new shard store shards log kept h records epoch step only =
    let was = step.rests.each records step.here in
    let len : length (take was.0 log) ≡ was.0 = length-take-le was.0 log was.2 in
    let end : end_of (coordinator_state records) ≡ was.0 = end_is_length (take was.0 log) h (coordinator_state records) was.3.decided ∙ len in
    let n = end_of (coordinator_state records) in
    let means : Means store shards (take n log) h records shard = subst (λ k. Means store shards (take k log) h records shard) (sym end) was.3 in
    let longer = opened_means store shards (take n log) h records epoch shard step.image means in
    let fits : n ≤ length log = omega (arith, end, was.2) in
    let size : length (take n log) ≡ n = length-take-le n log fits in
    let all : take n (take n log) ≡ take n log = take_all n (take n log) (omega (arith, size)) in (
      omega (arith, end, was.1),
      fits,
      record {
        is_log = log_taken n log fits step.rests.is_log;
        horizon = omega (arith, step.rests.horizon, was.1, end);
        within = omega (arith, size);
        each = λ found stop. (
          n,
          omega arith,
          omega (arith, size),
          subst (λ (l : List Entry). Means store shards l h found shard) (sym all) (⊎_elim
              (λ same. subst (λ (f : List Record). Means store shards (take n log) h f shard) (sym same) means)
              (λ more. subst (λ (f : List Record). Means store shards (take n log) h f shard) (sym more) longer)
              (only found stop)),
        );
      },
      longer,
    )

-- a horizon that each shard has learned up to
raised_means : (store shards : ℕ) (log : List Entry) (h : ℕ) (records : List Record) (place : ℕ) (shard : ℕ → List Record → Type 0)
    → IsCoordinatorImage (coordinator_node store shards) (records ++ Horizon place ∷ []) → IsLearnedInAll shards shard place
    → Means store shards log h records shard → Means store shards log h (records ++ Horizon place ∷ []) shard
unfolding coordinator_step
raised_means store shards log h records place shard image learned m =
    let may : MayRaise (coordinator_state records) place = coordinator_last (coordinator_node store shards) records (Horizon place) image in
    let end : end_of (coordinator_state records) ≡ length log = end_is_length log h (coordinator_state records) m.decided in
    pushed store shards log h records (Horizon place) shard image
    (record {
      decisions = m.decided.decisions;
      base = omega (arith, m.decided.base, may.on);
      above = omega (arith, m.decided.above, may.on);
      within = omega (arith, may.within, end);
      given = m.decided.given;
    })
    (λ s found lt stop.
    let was = m.each_shard s found lt stop in
    record {
      image = was.image;
      means = record { learned = was.means.learned; horizon = was.means.horizon; rows = was.means.rows; settled = learned s found lt stop; in_doubt = was.means.in_doubt };
      given = was.given;
    })

pub horizons_rest : (old new : List Record → Type 0) (shard : ℕ → List Record → Type 0) → HorizonsRest old new shard
horizons_rest old new shard store shards log kept h records place step whole learned = (
  record {
    is_log = step.rests.is_log;
    horizon = step.rests.horizon;
    within = step.rests.within;
    each = λ found stop. ⊎_elim
        (λ before. step.rests.each found before)
        (λ after. (
          length log,
          step.rests.within,
          omega arith,
          subst (λ (l : List Entry). Means store shards l h found shard) (sym (take_all (length log) log (omega arith)))
              (subst (λ (f : List Record). Means store shards log h f shard) (sym after) means),
        ))
        (step.adds found stop);
  },
  means,
)
  where
    means : Means store shards log h (records ++ Horizon place ∷ []) shard
    means = raised_means store shards log h records place shard step.image learned whole

pub flushes_rest : (old new : List Record → Type 0) (shard : ℕ → List Record → Type 0) → FlushesRest old new shard
flushes_rest old new shard store shards log kept h records rests whole only = record {
  is_log = rests.is_log;
  horizon = omega (arith, rests.horizon, rests.within);
  within = omega arith;
  each = λ found stop. (
    length log,
    omega arith,
    omega arith,
    subst (λ (l : List Entry). Means store shards l h found shard) (sym (take_all (length log) log (omega arith)))
        (subst (λ (f : List Record). Means store shards log h f shard) (sym (only found stop)) whole),
  );
}
