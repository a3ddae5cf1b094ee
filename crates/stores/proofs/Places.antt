-- What a stop leaves takes the place of what it could leave before: it is that, or that with an opening, or other records that stand for the same. So it
-- means what that meant.
use Rattle.std.proofs.Common.{◌≡◌, inl, ⊎_elim, ℕ, ◌<◌, ◌≤◌, ◌-◌, List, [], ◌∷◌, ◌++◌, length, take, drop, refl, sym, ◌∙◌, ap, subst, arith}
use Rattle.std.proofs.lemmas.List.{drop-drop}
use Rattle.stores.proofs.Words.{Entry, Epoch, IsShardImage, Means, NodeName, Nodes, Record, Rests, ShardMeans, ShardState, StandFor, at_shards, coordinator, coordinator_node, coordinator_state, find_in_doubt, leaves, of_shard, opened_shard_means, shard, shard_node, shard_push, shard_state, versions}
use Rattle.records.specs.Replays.{shard_step}
use Rattle.replay.specs.Alike.{IsAlike}
use Rattle.replay.proofs.Alike.{alike_refl}
use Rattle.laws.specs.Coordinators.{AreGiven}
use Rattle.versions.specs.Alike.{AreAlike}
use Rattle.versions.proofs.Alike.{alike_sym, alike_trans}

-- records stand for what they stand for
pub stand_for_itself : (n : NodeName) (rs : List Record) → StandFor n rs rs
stand_for_itself coordinator rs = (
  record {
    horizon = refl;
    epoch = refl;
    above = omega arith;
    within = inl (omega arith);
    log = ap (λ (n : ℕ). drop n (coordinator_state rs).log) (let zero : 0 ≡ (coordinator_state rs).base - (coordinator_state rs).base = omega arith in zero);
    end = refl;
  },
  λ me is. is,
)
stand_for_itself (shard s) rs = (alike_refl (shard_state rs), λ me is. is)

-- states that are alike mean the same
alike_means : (shards s : ℕ) (log : List Entry) (hc h : ℕ) (a b : ShardState) → IsAlike a b → ShardMeans shards s log hc h a → ShardMeans shards s log hc h b
alike_means shards s log hc h a b same m = record {
  learned = subst (λ (n : ℕ). n ≤ length log) same.learned m.learned;
  horizon = subst (λ (n : ℕ). n ≤ h) same.horizon m.horizon;
  rows = subst (λ (n : ℕ). AreAlike b.rows (of_shard shards s (versions log n b.horizon))) same.learned
      (subst (λ (n : ℕ). AreAlike b.rows (of_shard shards s (versions log a.learned n))) same.horizon (alike_trans (alike_sym same.rows) m.rows));
  settled = subst (λ (n : ℕ). hc ≤ n) same.learned m.settled;
  in_doubt = record {
    above = λ j w is le. ap (find_in_doubt w.id) (sym same.in_doubt) ∙ m.in_doubt.above j w is (subst (λ (n : ℕ). n ≤ j) (sym same.learned) le);
    below = λ j w is lt. ap (find_in_doubt w.id) (sym same.in_doubt) ∙ m.in_doubt.below j w is (subst (λ (n : ℕ). j < n) (sym same.learned) lt);
  };
}

-- and so do a coordinator's records that stand for the same
pub forgotten_means : (store shards : ℕ) (log : List Entry) (h : ℕ) (old new : List Record) (stops : ℕ → List Record → Type 0) → StandFor coordinator old new
    → Means store shards log h old stops → Means store shards log h new stops
forgotten_means store shards log h old new stops same m = record {
  image = same.1 (coordinator_node store shards) m.image;
  decided = record {
    decisions = same.0.log
        ∙ ap (drop ((coordinator_state new).base - (coordinator_state old).base)) m.decided.decisions
        ∙ drop-drop ((coordinator_state new).base - (coordinator_state old).base) (coordinator_state old).base log
        ∙ ap (λ (n : ℕ). drop n log) (let le = same.0.above in omega (arith, le));
    base = (let e = same.0.horizon in let was = m.decided.base in ⊎_elim (λ le. omega (arith, e, was, le)) (λ le. omega (arith, e, le)) same.0.within);
    above = (let e = same.0.horizon in let le = m.decided.above in omega (arith, e, le));
    within = (let e = same.0.horizon in let le = m.decided.within in omega (arith, e, le));
    given = subst (λ (n : ℕ). AreGiven n log) (sym same.0.epoch) m.decided.given;
  };
  each_shard = λ s found lt here. let was = m.each_shard s found lt here in record {
    image = was.image;
    means = subst (λ (n : ℕ). ShardMeans shards s log n h (shard_state found)) (sym same.0.horizon) was.means;
    given = λ id w is. subst (λ (n : ℕ). id.epoch ≤ n) (sym same.0.epoch) (was.given id w is);
  };
}

-- A shard's records take the place of others: they are a shard's if these are, mean what these mean, and have in doubt what these have.
pub record TakesPlace (store shards s : ℕ) (before rs : List Record) : Type 0 where
  pub image : IsShardImage (shard_node store shards s) before → IsShardImage (shard_node store shards s) rs
  pub means : (log : List Entry) (hc h : ℕ) → ShardMeans shards s log hc h (shard_state before) → ShardMeans shards s log hc h (shard_state rs)
  pub in_doubt : (shard_state before).in_doubt ≡ (shard_state rs).in_doubt

module _ (store shards s : ℕ) (before : List Record) where
  -- their own
  own_place : TakesPlace store shards s before before
  own_place = record { image = λ is. is; means = λ log hc h m. m; in_doubt = refl }

  pub opened_place : (epoch : ℕ) → IsShardImage (shard_node store shards s) (before ++ Epoch epoch store shards s ∷ []) → TakesPlace store shards s before (before ++ Epoch epoch store shards s ∷ [])
  unfolding shard_step
  opened_place epoch image = record {
    image = λ was. image;
    means = λ log hc h m. opened_shard_means shards s log hc h before epoch store shards s m;
    in_doubt = ap (λ (m : ShardState). m.in_doubt) (sym (shard_push before (Epoch epoch store shards s)));
  }

  pub alike_place : (rs : List Record) → StandFor (shard s) before rs → TakesPlace store shards s before rs
  alike_place rs same = record {
    image = same.1 (shard_node store shards s);
    means = λ log hc h m. alike_means shards s log hc h (shard_state before) (shard_state rs) same.0 m;
    in_doubt = same.0.in_doubt;
  }

module _ (store shards : ℕ) (left : NodeName → List Record → Type 0) (nodes : Nodes) where
  -- a shard's records take the place of some that a stop could leave
  abbrev pub IsInPlace : ℕ → List Record → Type 0
  IsInPlace s rs = (before : List Record) × leaves left nodes (shard s) before × TakesPlace store shards s before rs

  pub still_in_place : (s : ℕ) (rs : List Record) → leaves left nodes (shard s) rs → IsInPlace s rs
  still_in_place s rs is = (rs, is, own_place store shards s rs)

  -- and a coordinator's mean what some that a stop could leave mean
  abbrev pub MeansAsBefore : List Record → Type 0
  MeansAsBefore rs = (before : List Record) × leaves left nodes coordinator before
      × ((log : List Entry) (h : ℕ) → Means store shards log h before (at_shards (leaves left nodes)) → Means store shards log h rs (at_shards (leaves left nodes)))

  pub still_means : (rs : List Record) → leaves left nodes coordinator rs → MeansAsBefore rs
  still_means rs is = (rs, is, λ log h m. m)

  module _ (within : ℕ → List Record → Type 0) (in_place : (s : ℕ) (rs : List Record) → within s rs → IsInPlace s rs) where
    -- the coordinator's records mean the same with what is left of the shards
    pub means_in_place : (log : List Entry) (h : ℕ) (c : List Record) → Means store shards log h c (at_shards (leaves left nodes)) → Means store shards log h c within
    means_in_place log h c m = record {
      image = m.image;
      decided = m.decided;
      each_shard = λ s rs lt is.
          let place = in_place s rs is in
          let was = m.each_shard s place.0 lt place.1 in
          record {
            image = place.2.image was.image;
            means = place.2.means log (coordinator_state c).horizon h was.means;
            given = λ id w has. was.given id w (ap (find_in_doubt id) place.2.in_doubt ∙ has);
          };
    }

    -- and what is left of it means a beginning of the log
    pub each_in_place : (log : List Entry) (kept h : ℕ) → Rests store shards log kept h (leaves left nodes coordinator) (at_shards (leaves left nodes))
        → (rs : List Record) → MeansAsBefore rs → (n : ℕ) × (kept ≤ n) × (n ≤ length log) × Means store shards (take n log) h rs within
    each_in_place log kept h rests rs (before, was_left, on) =
        let was = rests.each before was_left in
        (was.0, was.1, was.2, means_in_place (take was.0 log) h rs (on (take was.0 log) h was.3))

    pub rests_in_place : (log : List Entry) (kept h : ℕ) (stops : List Record → Type 0) → Rests store shards log kept h (leaves left nodes coordinator) (at_shards (leaves left nodes))
        → ((rs : List Record) → stops rs → MeansAsBefore rs) → Rests store shards log kept h stops within
    rests_in_place log kept h stops rests of_coordinator = record {
      is_log = rests.is_log;
      horizon = rests.horizon;
      within = rests.within;
      each = λ rs is. each_in_place log kept h rests rs (of_coordinator rs is);
    }
