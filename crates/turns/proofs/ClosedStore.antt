-- A store that is closed stands with all nodes down.
use Rattle.std.proofs.Common.{◌≡◌, ⊎_elim, ℕ, max, ◌≤◌, ◌<◌, List, [], ◌∷◌, length, take, Option, Some, None, slice_get, Contains, All, refl, sym, ◌∙◌, ap, subst, arith, append-nil}
use Rattle.std.proofs.lemmas.Bool.{cases_lt}
use Rattle.std.proofs.lemmas.List.{length-take-le, take_all}
use Rattle.std.proofs.lemmas.List.Elements.{All-cons, All-nil}
use Rattle.turns.proofs.Words.{Entry, IsMeaning, IsOfOpening, IsRightVerdict, Machine, Means, Move, Moves, NodeName, Record, Refusal, Rests, Stands, WasGiven, WriteId, at_shards, coordinator, coordinator_state, cut, cut_to, doubts_apart, down, end_is_length, end_of, find_in_doubt, keep, leaves, less_rests, log_taken, not_found, raise, raised_means, refused, shard, shard_node, shard_state, up}
use Rattle.turns.specs.ReopenLaws.{ClosedStoresStand, FindsCoordinator, closed_at, closed_nodes}
use Rattle.stores.proofs.ShardStagesStands.{contained_at}
use Rattle.tuples.proofs.Lists.{nothing_in}

pub nothing_is_up : {d g : List Record} → down ≡ up d g → ⊥
nothing_is_up is = cc

module _ (store shards : ℕ) (left after : NodeName → List Record → Type 0) (m : Machine) (found : List Record) (rests : Rests store shards m.log m.kept m.horizon (left coordinator) (at_shards left)) (finds : FindsCoordinator left after found) where
  abbrev stops : List Record → Type 0
  stops = leaves after closed_nodes coordinator

  only_before : (k : NodeName) (rs : List Record) → leaves after closed_nodes k rs → after k rs
  only_before k rs is = ⊎_elim (λ same. subst (after k) (sym same) is.1) (λ more. subst (after k) (sym (more ∙ append-nil is.0)) is.1) is.2

  shard_less : (s : ℕ) (rs : List Record) → leaves after closed_nodes (shard s) rs → left (shard s) rs
  shard_less s rs is = finds.same s rs (only_before (shard s) rs is)

  end : end_of (coordinator_state found) ≡ (rests.each found finds.was_left).0
  end =
      let was = rests.each found finds.was_left in
      end_is_length (take was.0 m.log) m.horizon (coordinator_state found) was.3.decided ∙ length-take-le was.0 m.log was.2

  low : m.kept ≤ end_of (coordinator_state found)
  low = let was = (rests.each found finds.was_left).1 in let e = end in omega (arith, was, e)

  fits : end_of (coordinator_state found) ≤ length m.log
  fits = let was = (rests.each found finds.was_left).2 in let e = end in omega (arith, was, e)

  size : length (take (end_of (coordinator_state found)) m.log) ≡ end_of (coordinator_state found)
  size = length-take-le (end_of (coordinator_state found)) m.log fits

  means : Means store shards (take (end_of (coordinator_state found)) m.log) m.horizon found (at_shards left)
  means = subst (λ k. Means store shards (take k m.log) m.horizon found (at_shards left)) (sym end) (rests.each found finds.was_left).3

  above : m.horizon ≤ (coordinator_state found).horizon
  above = means.decided.above

  within : (coordinator_state found).horizon ≤ end_of (coordinator_state found)
  within = let le = means.decided.within in let e = size in omega (arith, le, e)

  means_now : Means store shards (take (end_of (coordinator_state found)) m.log) (coordinator_state found).horizon found (at_shards (leaves after closed_nodes))
  means_now =
      let raised = raised_means stops stops (at_shards left) (at_shards left) store shards (take (end_of (coordinator_state found)) m.log) m.horizon (coordinator_state found).horizon found above (omega arith) means in
      (less_rests stops stops (at_shards left) (at_shards (leaves after closed_nodes)) store shards (take (end_of (coordinator_state found)) m.log) (end_of (coordinator_state found)) (coordinator_state found).horizon (λ rs is. is) shard_less).1 found raised

  rests_now : Rests store shards (take (end_of (coordinator_state found)) m.log) (end_of (coordinator_state found)) (coordinator_state found).horizon stops (at_shards (leaves after closed_nodes))
  rests_now = record {
    is_log = log_taken (end_of (coordinator_state found)) m.log fits rests.is_log;
    horizon = within;
    within = let e = size in omega (arith, e);
    each = λ rs is.
        let all : take (end_of (coordinator_state found)) (take (end_of (coordinator_state found)) m.log) ≡ take (end_of (coordinator_state found)) m.log = take_all (end_of (coordinator_state found)) (take (end_of (coordinator_state found)) m.log) (let e = size in omega (arith, e)) in (
          end_of (coordinator_state found),
          omega arith,
          (let e = size in omega (arith, e)),
          subst (λ (l : List Entry). Means store shards l (coordinator_state found).horizon rs (at_shards (leaves after closed_nodes))) (sym all)
              (subst (λ (f : List Record). Means store shards (take (end_of (coordinator_state found)) m.log) (coordinator_state found).horizon f (at_shards (leaves after closed_nodes))) (sym (finds.here rs (only_before coordinator rs is))) means_now),
        );
  }

  -- an id of an epoch that was found was given out
  given : (id : WriteId) → id.epoch ≤ (coordinator_state found).epoch → WasGiven shards after closed_nodes id
  given id le = record {
    epoch = λ rs is. subst (λ (l : List Record). id.epoch ≤ (coordinator_state l).epoch) (sym (finds.here rs is)) le;
    now = λ kept memory k. absurd (nothing_is_up k.is_up);
  }

  meaning : (s : ℕ) (rs : List Record) → s < shards → leaves after closed_nodes (shard s) rs → IsMeaning store shards s (take (end_of (coordinator_state found)) m.log) (coordinator_state found).horizon (coordinator_state found) rs
  meaning s rs lt is = means_now.each_shard s rs lt is

  in_doubt_given : (s : ℕ) (rs : List Record) (w : Entry) → s < shards → leaves after closed_nodes (shard s) rs → Contains (shard_state rs).in_doubt w → w.id.epoch ≤ (coordinator_state found).epoch
  in_doubt_given s rs w lt is has =
      let at = contained_at (shard_state rs).in_doubt w has in
      by_found at.0 at.1 (find_in_doubt w.id (shard_state rs).in_doubt) refl
    where
      by_found : (j : ℕ) → slice_get (shard_state rs).in_doubt j ≡ Some w → (o : Option Entry) → find_in_doubt w.id (shard_state rs).in_doubt ≡ o → w.id.epoch ≤ (coordinator_state found).epoch
      by_found j at None none = absurd (not_found w.id (shard_state rs).in_doubt j w none at refl)
      by_found j at (Some p) some = (meaning s rs lt is).given w.id p some

  closed_stands : Stands store shards after (closed_at (cut_to m (coordinator_state found)))
  closed_stands = record {
    rests = rests_now;
    nodes = record {
      durable = λ k d g rs is. absurd (nothing_is_up is);
      no_opening = λ k d g a b c e is has. nothing_is_up is;
      coordinator_opened = λ kept memory k. absurd (nothing_is_up k.is_up);
      shard_opened = λ s d g is. absurd (nothing_is_up is);
      sound = λ k e is. absurd (down_not_refused e is);
    };
    heads = record {
      log = λ kept memory k. absurd (nothing_is_up k.is_up);
      kept = λ kept memory k. absurd (nothing_is_up k.is_up);
      horizon = λ kept memory k. absurd (nothing_is_up k.is_up);
      whole = λ d g is. absurd (nothing_is_up is);
    };
    listed = λ s rs lt is. (meaning s rs lt is).means;
    locks = λ s rs lt is. doubts_apart (shard_node store shards s) rs (meaning s rs lt is).image;
    ids = record {
      distinct = λ i j v w is_v is_w same. absurd cc;
      few = omega arith;
      unlisted = λ w has. absurd (nothing_in _ has);
      of_now = λ w has. absurd (nothing_in _ has);
      log_given = λ w has. let at = contained_at (take (end_of (coordinator_state found)) m.log) w has in given w.id (means.decided.given at.0 w at.1);
      prepares_given = λ s rs w lt is has. given w.id (in_doubt_given s rs w lt is has);
    };
    flows = record {
      few = omega arith;
      slots = λ i j q r is_q is_r same. absurd cc;
      ids = λ i j q r id is_q is_r same also. absurd cc;
      held = λ r has. absurd (nothing_in _ has);
      seen = λ r has. absurd (nothing_in _ has);
      quiet = λ r has. absurd (nothing_in _ has);
    };
    told = All-nil (IsRightVerdict shards after (closed_at (cut_to m (coordinator_state found))));
  }
    where
      down_not_refused : (e : Refusal) → down ≡ refused e → ⊥
      down_not_refused e is = cc

  abbrev may_rise : ℕ → Type 0
  may_rise x = (1 ≤ x) × ((coordinator_state found).horizon ≡ x)

  abbrev all_of_it : Machine
  all_of_it = record { log = take (end_of (coordinator_state found)) m.log; kept = end_of (coordinator_state found); horizon = m.horizon }

  keeping : (last : List Move) → Moves all_of_it last (cut_to m (coordinator_state found)) → Moves m (cut (end_of (coordinator_state found)) ∷ keep (end_of (coordinator_state found)) ∷ last) (cut_to m (coordinator_state found))
  keeping last rest =
      let is_max : max m.kept (end_of (coordinator_state found)) ≡ end_of (coordinator_state found) = omega (arith, low) in (
        record m { log = take (end_of (coordinator_state found)) m.log },
        (low, refl),
        (all_of_it, (let e = size in omega (arith, e), ap (λ (k : ℕ). record m { log = take (end_of (coordinator_state found)) m.log; kept = k }) (sym is_max)), rest),
      )

  first_two : (last : List Move) → All (IsOfOpening may_rise) last → All (IsOfOpening may_rise) (cut (end_of (coordinator_state found)) ∷ keep (end_of (coordinator_state found)) ∷ last)
  first_two last rest =
      let k = end_of (coordinator_state found) in
      All-cons (IsOfOpening may_rise) (cut k) (keep k ∷ last) tt (All-cons (IsOfOpening may_rise) (keep k) last tt rest)

  moved : (moves : List Move) × Moves m moves (cut_to m (coordinator_state found)) × All (IsOfOpening may_rise) moves
  moved = ⊎_elim
      (λ (lt : m.horizon < (coordinator_state found).horizon). (
        cut (end_of (coordinator_state found)) ∷ keep (end_of (coordinator_state found)) ∷ raise (coordinator_state found).horizon ∷ [],
        keeping (raise (coordinator_state found).horizon ∷ []) (cut_to m (coordinator_state found), (above, within, refl), refl),
        first_two (raise (coordinator_state found).horizon ∷ []) (All-cons (IsOfOpening may_rise) (raise (coordinator_state found).horizon) [] (rises lt) (All-nil (IsOfOpening may_rise))),
      ))
      (λ (le : (coordinator_state found).horizon ≤ m.horizon).
      let same : (coordinator_state found).horizon ≡ m.horizon = omega (arith, le, above) in (
        cut (end_of (coordinator_state found)) ∷ keep (end_of (coordinator_state found)) ∷ [],
        keeping [] (ap (λ (h : ℕ). record { log = take (end_of (coordinator_state found)) m.log; kept = end_of (coordinator_state found); horizon = h }) same),
        first_two [] (All-nil (IsOfOpening may_rise)),
      ))
      (cases_lt m.horizon (coordinator_state found).horizon)
    where
      rises : m.horizon < (coordinator_state found).horizon → may_rise (coordinator_state found).horizon
      rises lt = (omega (arith, lt), refl)

pub closed_stores_stand : (store shards : ℕ) (left after : NodeName → List Record → Type 0) → ClosedStoresStand store shards left after
closed_stores_stand store shards left after m found rests finds = (closed_stands store shards left after m found rests finds, moved store shards left after m found rests finds)
