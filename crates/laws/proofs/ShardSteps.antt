-- One more record at a shard.
use Rattle.std.proofs.Common.{◌≡◌, ⊎_elim, ℕ, ◌+◌, ◌-◌, ◌<◌, ◌≤◌, List, [], ◌∷◌, ◌++◌, length, take, drop, Option, Some, None, refl, sym, ◌∙◌, ap, subst, arith}
use Rattle.std.proofs.lemmas.List.{drop-drop, drop-take, length-take-le, take-take}
use Rattle.std.proofs.lemmas.Bool.{cases_lt}
use Rattle.tuples.specs.declared.entry.Entry.{Entry}
use Rattle.tuples.specs.declared.entry.WriteId.{WriteId}
use Rattle.records.specs.declared.record.Record.{Record}
use Rattle.records.specs.declared.record.Record.TheVariants.{Prepare, Learned, Dropped, Epoch, Horizon}
use Rattle.records.specs.Coordinators.{CoordinatorState, coordinator_state}
use Rattle.records.specs.Replays.{IsShardImage, MayCollect, MayDrop, ShardState, find_in_doubt, shard_state, shard_step, Identity}
use Rattle.replay.proofs.Doubts.{cases_id, find_put, none_stays, none_without}
use Rattle.replay.proofs.States.{image_last, shard_push}
use Rattle.shard.specs.Shards.{learning, placed_ids_from}
use Rattle.laws.specs.LogLaws.{IsUnlisted}
use Rattle.laws.specs.Shards.{ShardMeans}
use Rattle.laws.specs.Worlds.{AreGivenInDoubt, IsMeaning, Rests, shard_node}
use Rattle.laws.specs.ShardLaws.{AreOfLog, CollectsRest, DropsRest, IsShardStep, LearnsRest, PreparesRest, ShardOpeningsRest, IsUnlistedAbove}
use Rattle.laws.proofs.Lists.{new_taken, slice_get_taken}
use Rattle.laws.proofs.PrepareStep.{dropped_means, prepared_means}
use Rattle.laws.proofs.LearnStep.{learned_means}
use Rattle.laws.proofs.CollectStep.{rows_collected}
use Rattle.tuples.specs.Log.{AreNew}

-- the longer list means what its last record makes of the rest
pushed : (store shards s : ℕ) (log : List Entry) (h : ℕ) (c : CoordinatorState) (records : List Record) (r : Record) → IsShardImage (shard_node store shards s) (records ++ r ∷ [])
    → ShardMeans shards s log c.horizon h (shard_step (shard_state records) r) → AreGivenInDoubt c.epoch (shard_step (shard_state records) r)
    → IsMeaning store shards s log h c (records ++ r ∷ [])
pushed store shards s log h c records r image means given = record {
  image = image;
  means = subst (ShardMeans shards s log c.horizon h) (sym (shard_push records r)) means;
  given = subst (AreGivenInDoubt c.epoch) (sym (shard_push records r)) given;
}

-- if the longer list means each beginning of the log that the shorter one means, all nodes stay at rest
step_rests : (store shards : ℕ) (log : List Entry) (kept h : ℕ) (coordinator : List Record → Type 0) (old new : ℕ → List Record → Type 0) (s : ℕ) (records : List Record) (r : Record)
    → IsShardStep store shards log kept h coordinator old s records r new
    → ((c : List Record) (n : ℕ) → coordinator c → kept ≤ n → n ≤ length log → h ≤ (coordinator_state c).horizon
    → IsMeaning store shards s (take n log) h (coordinator_state c) records → IsMeaning store shards s (take n log) h (coordinator_state c) (records ++ r ∷ []))
    → Rests store shards log kept h coordinator new
step_rests store shards log kept h coordinator old new s records r step each = record {
  is_log = step.rests.is_log;
  horizon = step.rests.horizon;
  within = step.rests.within;
  each = λ c is.
      let was = step.rests.each c is in (
        was.0,
        was.1,
        was.2,
        record {
          image = was.3.image;
          decided = was.3.decided;
          each_shard = λ t found lt stop. ⊎_elim
              (λ before. was.3.each_shard t found lt before)
              (λ after.
              let here : s < shards = subst (λ u. u < shards) after.0 lt in
              let longer = each c was.0 is was.1 was.2 was.3.decided.above (was.3.each_shard s records here step.here) in
              subst (λ (f : List Record). IsMeaning store shards t (take was.0 log) h (coordinator_state c) f) (sym after.1)
              (subst (λ u. IsMeaning store shards u (take was.0 log) h (coordinator_state c) (records ++ r ∷ [])) (sym after.0) longer))
              (step.adds t found stop);
        },
      );
}

unlisted_taken : (id : WriteId) (n : ℕ) (log : List Entry) → IsUnlisted id log → IsUnlisted id (take n log)
unlisted_taken id n log unlisted j w is = unlisted j w (slice_get_taken n log j w is)

-- what was not found is not found after it
given_fewer : (epoch : ℕ) (old new : ShardState) → ((id : WriteId) → find_in_doubt id old.in_doubt ≡ None → find_in_doubt id new.in_doubt ≡ None) → AreGivenInDoubt epoch old → AreGivenInDoubt epoch new
given_fewer epoch old new fewer given id w is = found (find_in_doubt id old.in_doubt) refl
  where
    found : (o : Option Entry) → find_in_doubt id old.in_doubt ≡ o → id.epoch ≤ epoch
    found None none = let gone : Some w ≡ None = sym is ∙ fewer id none in absurd cc
    found (Some v) some = given id v some

pub prepares_rest : (coordinator : List Record → Type 0) (old new : ℕ → List Record → Type 0) → PreparesRest coordinator old new
unfolding shard_step
prepares_rest coordinator old new store shards log kept h s records w step unlisted epoch =
    step_rests store shards log kept h coordinator old new s records (Prepare w) step (λ c n is ge le above m.
    pushed store shards s (take n log) h (coordinator_state c) records (Prepare w) step.image
    (prepared_means shards s (take n log) (coordinator_state c).horizon h (shard_state records) w.id (unlisted_taken w.id n log unlisted) m.means w refl)
    (given c is m.given))
  where
    given : (c : List Record) → coordinator c → AreGivenInDoubt (coordinator_state c).epoch (shard_state records) → AreGivenInDoubt (coordinator_state c).epoch (shard_step (shard_state records) (Prepare w))
    given c is was id v found = ⊎_elim
        (λ (same : w.id ≡ id). subst (λ (i : WriteId). i.epoch ≤ (coordinator_state c).epoch) same (epoch c is))
        (λ ne. was id v (sym (find_put id (shard_state records).in_doubt w ne) ∙ found))
        (cases_id w.id id)

-- a write that is in doubt, and not listed above a horizon that the shard has learned, is not listed at all
pub dropped_unlisted : (me : Identity) (shards s : ℕ) (log : List Entry) (hc h : ℕ) (records : List Record) (id : WriteId) → IsShardImage me (records ++ Dropped id ∷ [])
    → ShardMeans shards s log hc h (shard_state records) → IsUnlistedAbove hc id log → IsUnlisted id log
dropped_unlisted me shards s log hc h records id image m unlisted j w is same = ⊎_elim
    (λ learned.
    let may : MayDrop (shard_state records) id = image_last me records (Dropped id) image in
    let none : find_in_doubt id (shard_state records).in_doubt ≡ None = ap (λ (i : WriteId). find_in_doubt i (shard_state records).in_doubt) same ∙ m.in_doubt.below j w is learned in
    let gone : Some may.prepared.0 ≡ None = sym may.prepared.1 ∙ none in
    absurd cc)
    (λ not_yet. unlisted j w is (omega (arith, m.settled, not_yet)) same)
    (cases_lt j (shard_state records).learned)

pub drops_rest : (coordinator : List Record → Type 0) (old new : ℕ → List Record → Type 0) → DropsRest coordinator old new
unfolding shard_step
drops_rest coordinator old new store shards log kept h s records id step unlisted =
    step_rests store shards log kept h coordinator old new s records (Dropped id) step (λ c n is ge le above m.
    pushed store shards s (take n log) h (coordinator_state c) records (Dropped id) step.image
    (dropped_means shards s (take n log) (coordinator_state c).horizon h (shard_state records) id
    (dropped_unlisted (shard_node store shards s) shards s (take n log) (coordinator_state c).horizon h records id step.image m.means
    (λ j w is over. unlisted j w (slice_get_taken n log j w is) (omega (arith, above, over)))) m.means)
    (given_fewer (coordinator_state c).epoch (shard_state records) (shard_step (shard_state records) (Dropped id)) (λ i none. none_without i id (shard_state records).in_doubt none) m.given))

pub shard_openings_rest : (coordinator : List Record → Type 0) (old new : ℕ → List Record → Type 0) → ShardOpeningsRest coordinator old new
unfolding shard_step
shard_openings_rest coordinator old new store shards log kept h s records epoch step =
    step_rests store shards log kept h coordinator old new s records (Epoch epoch store shards s) step (λ c n is ge le above m.
    pushed store shards s (take n log) h (coordinator_state c) records (Epoch epoch store shards s) step.image
    (record { learned = m.means.learned; horizon = m.means.horizon; rows = m.means.rows; settled = m.means.settled; in_doubt = record { above = m.means.in_doubt.above; below = m.means.in_doubt.below } })
    m.given)

-- an opening leaves what a shard's records mean
pub opened_shard_means : (shards s : ℕ) (log : List Entry) (hc h : ℕ) (records : List Record) (epoch a b c : ℕ) → ShardMeans shards s log hc h (shard_state records)
    → ShardMeans shards s log hc h (shard_state (records ++ Epoch epoch a b c ∷ []))
unfolding shard_step
opened_shard_means shards s log hc h records epoch a b c m = subst (ShardMeans shards s log hc h) (sym (shard_push records (Epoch epoch a b c)))
    (record { learned = m.learned; horizon = m.horizon; rows = m.rows; settled = m.settled; in_doubt = record { above = m.in_doubt.above; below = m.in_doubt.below } })

-- rows that are collected under a horizon at or below that of the whole store mean what they meant
pub collected_means : (me : Identity) (shards s : ℕ) (log : List Entry) (hc h : ℕ) (records : List Record) (place : ℕ) → IsShardImage me (records ++ Horizon place ∷ []) → place ≤ h
    → ShardMeans shards s log hc h (shard_state records) → ShardMeans shards s log hc h (shard_step (shard_state records) (Horizon place))
unfolding shard_step
collected_means me shards s log hc h records place image low m =
    let may : MayCollect (shard_state records) place = image_last me records (Horizon place) image in
    record {
      learned = m.learned;
      horizon = low;
      rows = rows_collected shards s log (shard_state records).rows (shard_state records).learned (shard_state records).horizon place may.on m.rows;
      settled = m.settled;
      in_doubt = record { above = m.in_doubt.above; below = m.in_doubt.below };
    }

pub collects_rest : (coordinator : List Record → Type 0) (old new : ℕ → List Record → Type 0) → CollectsRest coordinator old new
unfolding shard_step
collects_rest coordinator old new store shards log kept h s records place step low =
    step_rests store shards log kept h coordinator old new s records (Horizon place) step (λ c n is ge le above m.
    pushed store shards s (take n log) h (coordinator_state c) records (Horizon place) step.image
    (collected_means (shard_node store shards s) shards s (take n log) (coordinator_state c).horizon h records place step.image low m.means)
    m.given)

-- the writes of a batch that are not learned are those of the log after the learned place, up to the batch's end
pub unlearned_of_log : (log writes : List Entry) (from p n : ℕ) → AreOfLog log from writes → from ≤ p → p ≤ from + length writes → from + length writes ≤ n
    → drop (p - from) writes ≡ take (from + length writes - p) (drop p (take n log))
unlearned_of_log log writes from p n are low high within =
    let k = p - from in
    let m = from + length writes - p in
    let cut : length writes ≡ k + m = omega arith in
    let place : from + k ≡ p = omega arith in
    let rest : p + (n - p) ≡ n = omega arith in
    let few : m ≤ n - p = omega arith in
    ap (drop k) are
    ∙ ap (λ (l : ℕ). drop k (take l (drop from log))) cut
    ∙ drop-take k m (drop from log)
    ∙ ap (take m) (drop-drop k from log ∙ ap (λ (q : ℕ). drop q log) place)
    ∙ sym (take-take m (n - p) (drop p log) few)
    ∙ ap (take m) (sym (drop-take p (n - p) log) ∙ ap (λ (q : ℕ). drop p (take q log)) rest)

-- a batch of the log leaves what the records mean beside the first n writes, including those of the batch
pub batch_means : (store shards s : ℕ) (log : List Entry) (hc h : ℕ) (state : ShardState) (from : ℕ) (writes : List Entry) (n : ℕ) → AreNew log → AreOfLog log from writes → from + length writes ≤ n → n ≤ length log
    → from ≤ state.learned → state.learned ≤ from + length writes → h ≤ hc → ShardMeans shards s (take n log) hc h state
    → ShardMeans shards s (take n log) hc h (shard_step state (learning (shard_node store shards s) state from writes))
batch_means store shards s log hc h state from writes n new are within le low high above m =
    let to = from + length writes in
    let p = state.learned in
    let same : drop (p - from) writes ≡ take (to - p) (drop p (take n log)) = unlearned_of_log log writes from p n are low high within in
    let len : length (take n log) ≡ n = length-take-le n log le in
    let fits : to ≤ length (take n log) = omega (arith, len, within) in
    subst (λ (l : List Entry). ShardMeans shards s (take n log) hc h (shard_step state (Learned to (placed_ids_from shards s (p + 1) l))))
    (sym same)
    (learned_means shards s (take n log) hc h state to m above high fits (new_taken n log new))

pub learns_rest : (coordinator : List Record → Type 0) (old new : ℕ → List Record → Type 0) → LearnsRest coordinator old new
unfolding shard_step
learns_rest coordinator old new store shards log kept h s records from writes step are within low high =
    step_rests store shards log kept h coordinator old new s records (learning (shard_node store shards s) (shard_state records) from writes) step (λ c n is ge le above m.
    pushed store shards s (take n log) h (coordinator_state c) records (learning (shard_node store shards s) (shard_state records) from writes) step.image
    (batch_of_first n c m ge le above)
    (given_fewer (coordinator_state c).epoch (shard_state records) (shard_step (shard_state records) (learning (shard_node store shards s) (shard_state records) from writes)) fewer m.given))
  where
    fewer : (id : WriteId) → find_in_doubt id (shard_state records).in_doubt ≡ None → find_in_doubt id (shard_step (shard_state records) (learning (shard_node store shards s) (shard_state records) from writes)).in_doubt ≡ None
    fewer id none = none_stays id (placed_ids_from shards s ((shard_state records).learned + 1) (drop ((shard_state records).learned - from) writes)) (shard_state records).in_doubt none

    batch_of_first : (n : ℕ) (c : List Record) → IsMeaning store shards s (take n log) h (coordinator_state c) records → kept ≤ n → n ≤ length log → h ≤ (coordinator_state c).horizon
        → ShardMeans shards s (take n log) (coordinator_state c).horizon h (shard_step (shard_state records) (learning (shard_node store shards s) (shard_state records) from writes))
    batch_of_first n c m ge le above = batch_means store shards s log (coordinator_state c).horizon h (shard_state records) from writes n step.rests.is_log.new are (omega (arith, within, ge)) le low high above m.means
