-- What a stop may leave gets less, and the places that are kept.
use Rattle.std.proofs.Common.{◌≡◌, ◌⊎◌, inl, inr, ⊎_elim, ℕ, ◌≤◌, List, ◌++◌, length, take, refl, sym, ◌∙◌, ap, subst, arith, append-nil}
use Rattle.std.proofs.lemmas.List.{take_all}
use Rattle.laws.proofs.Words.{Entry, Means, Record, coordinator_state}
use Rattle.laws.specs.StopLaws.{FlushesLeaveLess, HorizonRises, LeavesLessAt, LessRests, WholeRests}

module _ (old new : List Record → Type 0) (shard shard_after : ℕ → List Record → Type 0) where
  means_less : (store shards : ℕ) (log : List Entry) (h : ℕ) → LeavesLessAt shard shard_after → (records : List Record) → Means store shards log h records shard → Means store shards log h records shard_after
  means_less store shards log h less records m = record { image = m.image; decided = m.decided; each_shard = λ s found lt stop. m.each_shard s found lt (less s found stop) }

  pub less_rests : LessRests old new shard shard_after
  less_rests store shards log kept h coordinator_less shard_less = (
    λ rests. record {
      is_log = rests.is_log;
      horizon = rests.horizon;
      within = rests.within;
      each = λ found stop. let was = rests.each found (coordinator_less found stop) in (was.0, was.1, was.2, means_less store shards (take was.0 log) h shard_less found was.3);
    },
    means_less store shards log h shard_less,
  )

  pub flushes_leave_less : FlushesLeaveLess old new shard shard_after
  flushes_leave_less durable staged here only found left = ⊎_elim
      (λ same. with_it (only left.0 left.1) same)
      (λ more. with_it (only left.0 left.1) (more ∙ append-nil left.0))
      left.2
    where
      with_it : (left.0 ≡ durable) ⊎ (left.0 ≡ durable ++ staged) → found ≡ left.0 → (before : List Record) × old before × ((found ≡ before) ⊎ (found ≡ before ++ staged))
      with_it (inl is) same = (durable, here, inl (same ∙ is))
      with_it (inr is) same = (durable, here, inr (same ∙ is))

  pub raised_means : (store shards : ℕ) (log : List Entry) (h later : ℕ) (records : List Record) → h ≤ later → later ≤ (coordinator_state records).horizon
      → Means store shards log h records shard → Means store shards log later records shard
  raised_means store shards log h later records le within m = record {
    image = m.image;
    decided = record { decisions = m.decided.decisions; base = m.decided.base; above = within; within = m.decided.within; given = m.decided.given };
    each_shard = λ s found lt stop.
        let was = m.each_shard s found lt stop in
        let low = was.means.horizon in
        record {
          image = was.image;
          means = record { learned = was.means.learned; horizon = omega (arith, low, le); rows = was.means.rows; settled = was.means.settled; in_doubt = was.means.in_doubt };
          given = was.given;
        };
  }

  pub horizon_rises : HorizonRises old new shard shard_after
  horizon_rises store shards log kept h later le within each rests = record {
    is_log = rests.is_log;
    horizon = within;
    within = rests.within;
    each = λ found stop. let was = rests.each found stop in (was.0, was.1, was.2, raised_means store shards (take was.0 log) h later found le (each found stop) was.3);
  }

  pub whole_rests : WholeRests old new shard shard_after
  whole_rests store shards log h records is_log le = (
    λ means. record {
      is_log = is_log;
      horizon = le;
      within = omega arith;
      each = λ found is. (length log, omega arith, omega arith, subst (λ (l : List Entry). Means store shards l h found shard) (sym whole) (subst (λ (f : List Record). Means store shards log h f shard) (sym is) means));
    },
    λ rests.
        let was = rests.each records refl in
        let end : was.0 ≡ length log = omega (arith, was.1, was.2) in
        subst (λ (l : List Entry). Means store shards l h records shard) (ap (λ n. take n log) end ∙ whole) was.3,
  )
    where
      whole : take (length log) log ≡ log
      whole = take_all (length log) log (omega arith)
