-- A store at rest is tied.
use Rattle.std.proofs.Common.{◌≡◌, ⊎_elim, ℕ, ◌≤◌, ◌<◌, List, [], ◌++◌, length, take, drop, sym, ◌∙◌, ap, subst, arith}
use Rattle.std.proofs.lemmas.List.{length-take, length-take-le, take-append-drop, take-take}
use Rattle.ties.proofs.Words.{Anywhere, AreAlike, AreListed, AreOf, AreRowsOf, changes_from, Entry, IsLonger, of_shard, Record, RowsAnywhere, slice_get_taken, State}
use Rattle.tuples.specs.Versions.{collected, versions}
use Rattle.records.specs.Coordinators.{coordinator_state}
use Rattle.records.specs.Replays.{shard_state}
use Rattle.laws.proofs.Lists.{new_taken}
use Rattle.ties.specs.RestingLaws.{IsReached, IsResting, RestingNodesAreTied, coordinator_stops, shard_stops}

-- Given the devices of a store at rest, and the farthest place that a shard has learned
module _ {D : Type 0} (state : D → State) (honest : D → Type 0) (a b : D) (devices : ℕ → D × D) (store shards : ℕ) (log : List Entry) (kept h place : ℕ)
    (resting : IsResting state honest a b devices store shards log kept h) (reached : IsReached shards kept (shard_stops state honest a b devices) place) where
  abbrev coordinator_left : List Record → Type 0
  coordinator_left = coordinator_stops state honest a b devices

  abbrev shard_left : ℕ → List Record → Type 0
  shard_left = shard_stops state honest a b devices

  abbrev seen : List Entry
  seen = take place log

  -- no records of the coordinator mean a shorter log
  reaches : (found : List Record) (is : coordinator_left found) → place ≤ (resting.rests.each found is).0
  reaches found is =
      let was = resting.rests.each found is in
      ⊎_elim
      (λ same. let k = was.1 in omega (arith, k, same))
      (λ some.
      let means = (was.3.each_shard some.0 some.1 some.2 some.3).means in
      let l = means.learned in
      let t = length-take was.0 log in
      omega (arith, l, t, some.4))
      reached.some

  seen_length : (n : ℕ) → place ≤ n → n ≤ length log → length seen ≡ place
  seen_length n le within = length-take-le place log (omega (arith, le, within))

  longer : (found : List Record) → coordinator_left found → IsLonger seen h [] (coordinator_state found)
  longer found is =
      let was = resting.rests.each found is in
      let n : ℕ = was.0 in
      let decided = was.3.decided in
      let up_to : place ≤ n = reaches found is in
      let list_is : take n log ≡ seen ++ drop place (take n log) =
      sym (take-append-drop place (take n log)) ∙ ap (λ (l : List Entry). l ++ drop place (take n log)) (take-take place n log up_to) in
      record {
        more = drop place (take n log);
        are = subst (λ (l : List Entry). AreOf l (coordinator_state found)) list_is (record { decisions = decided.decisions; base = decided.base; within = decided.within });
        listed = subst (AreListed (coordinator_state found).epoch) list_is (record {
          whole = λ j w at. resting.rests.is_log.whole j w (slice_get_taken n log j w at);
          new = new_taken n log resting.rests.is_log.new;
          given = decided.given;
        });
        raised = decided.above;
        within =
            let means = (was.3.each_shard 0 resting.shard.0 resting.some resting.shard.1).means in
            let settled = means.settled in
            let all = reached.all 0 resting.shard.0 resting.some resting.shard.1 in
            omega (arith, settled, all, seen_length n up_to was.2);
        past = λ j x none. absurd cc;
      }

  same_first : (p hz n : ℕ) → p ≤ n → p ≤ place → versions (take n log) p hz ≡ versions seen p hz
  unfolding versions
  same_first p hz n le low = ap (λ (l : List Entry). collected hz (changes_from 1 l)) (take-take p n log le ∙ sym (take-take p place log low))

  rows : (s : ℕ) (found : List Record) → s < shards → shard_left s found → AreRowsOf shards s seen h (shard_state found)
  rows s found lt is =
      let c = resting.coordinator in
      let was = resting.rests.each c.0 c.1 in
      let n : ℕ = was.0 in
      let means = (was.3.each_shard s found lt is).means in
      let all : (shard_state found).learned ≤ place = reached.all s found lt is in
      let learned_n : (shard_state found).learned ≤ n = let r = reaches c.0 c.1 in omega (arith, all, r) in
      record {
        learned = omega (arith, all, seen_length n (reaches c.0 c.1) was.2);
        horizon = means.horizon;
        within = let hz = means.horizon in let above = was.3.decided.above in let settled = means.settled in omega (arith, hz, above, settled);
        whole = λ j w at. resting.rests.is_log.whole j w (slice_get_taken place log j w (slice_get_taken (shard_state found).learned seen j w at));
        rows = subst (λ v. AreAlike (shard_state found).rows (of_shard shards s v)) (same_first (shard_state found).learned (shard_state found).horizon n learned_n all) means.rows;
      }

  pub resting_tied : Anywhere state honest a b seen h [] × ((s : ℕ) → s < shards → RowsAnywhere state honest shards s (devices s).0 (devices s).1 seen h)
  resting_tied = (
    record { honest_a = resting.honest_a; honest_b = resting.honest_b; each = longer },
    λ s lt. record { honest_a = (resting.honest_shards s lt).0; honest_b = (resting.honest_shards s lt).1; each = λ found is. rows s found lt is },
  )

pub resting_nodes_are_tied : {D : Type 0} (state : D → State) (honest : D → Type 0) (a b : D) (devices : ℕ → D × D) → RestingNodesAreTied state honest a b devices
resting_nodes_are_tied state honest a b devices store shards log kept h place resting reached = resting_tied state honest a b devices store shards log kept h place resting reached
