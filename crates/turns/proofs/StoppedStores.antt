-- What a stop at a moment of a step, or of an opening, leaves rests at a machine that it might have stopped at.
use Rattle.std.proofs.Common.{◌≡◌, ◌≤◌, inl, inr, ⊎_elim, ℕ, List, length, take, Some, refl, sym, ◌∙◌, ap, subst, arith}
use Rattle.std.proofs.lemmas.List.{length-take-le, take_all}
use Rattle.turns.proofs.Words.{AreSound, Entry, IsGivenOut, IsThere, IsUnlistedAbove, Machine, Means, NodeName, Record, State, StopsBetween, WriteId, at_shards, coordinator, coordinator_state, found, log_taken, shard, shard_state, slice_get_taken, stops}
use Rattle.laws.specs.Stops.{MeansOne}
use Rattle.laws.specs.Worlds.{IsLog}
use Rattle.stores.specs.Stores.{IsToldOver, RestsOver}
use Rattle.stores.proofs.ShardStagesStands.{contained_at}
use Rattle.turns.specs.Promises.{stops_since}
use Rattle.turns.specs.StoreLaws.{IsStopOf, IsStopped}
use Rattle.turns.proofs.ClosedStoreRests.{means_lower}

module _ {D : Type 0} (state : D → State) (honest : D → Type 0) (moment : D → ℕ) (left_since : D → ℕ → List ℕ → Type 0) (store shards : ℕ)
    (old new stopped : NodeName → D × D) (before after : Machine) (between : StopsBetween state honest moment left_since store shards old new before after)
    (stop : IsStopped state honest moment left_since store shards old new stopped) where
  abbrev since : NodeName → List Record → Type 0
  since = stops_since state honest moment left_since store shards old new

  abbrev now_left : NodeName → List Record → Type 0
  now_left = stops state honest store shards stopped

  -- the one list of records of a node
  pub records_of : (n : NodeName) → IsThere shards n → (rs : List Record) × since n rs × ((found : List Record) → now_left n found → found ≡ rs)
  records_of n there =
      let a = stop.a n there in
      let b = stop.b n there in
      let rs = between.readable n a.content b.content there a.was_left b.was_left in (
        rs.0,
        (a.content, b.content, a.was_left, b.was_left, rs.1),
        λ other is. only (rs.0) rs.1 other is.0 is.1 (a.only is.0 is.2) (b.only is.1 is.3) is.4,
      )
    where
      only : (rs : List Record) → found (stop.a n there).content (stop.b n there).content ≡ Some rs → (other : List Record) (x y : List ℕ) → x ≡ (stop.a n there).content → y ≡ (stop.b n there).content
          → found x y ≡ Some other → other ≡ rs
      only rs is other x y is_x is_y at =
          let both : Some other ≡ Some rs = sym at ∙ ap (λ c. found c y) is_x ∙ ap (found (stop.a n there).content) is_y ∙ is in
          cc

  left_of : (n : NodeName) (rs : List Record) → IsThere shards n → now_left n rs → since n rs
  left_of n rs there is = let one = records_of n there in subst (since n) (sym (one.2 rs is)) one.1

  sound : AreSound state honest store shards stopped
  sound = record {
    honest_a = stop.honest_a;
    honest_b = stop.honest_b;
    readable = λ n x y there in_x in_y.
        let a = stop.a n there in
        let b = stop.b n there in
        let rs = between.readable n a.content b.content there a.was_left b.was_left in
        (rs.0, ap (λ c. found c y) (a.only x in_x) ∙ ap (found a.content) (b.only y in_y) ∙ rs.1);
  }

  abbrev at_coordinator : (rs : List Record) × since coordinator rs × ((found : List Record) → now_left coordinator found → found ≡ rs)
  at_coordinator = records_of coordinator tt

  module _ (log : List Entry) (is_log : IsLog log) (low : before.horizon ≤ before.kept) (one : MeansOne store shards log before.kept before.horizon at_coordinator.0 (at_shards since)) where
    abbrev pub machine : Machine
    machine = record { log = take one.n log; kept = one.n; horizon = before.horizon }

    size : length (take one.n log) ≡ one.n
    size = length-take-le one.n log one.within

    means : Means store shards (take one.n log) before.horizon at_coordinator.0 (at_shards now_left)
    means = record {
      image = one.means.image;
      decided = one.means.decided;
      each_shard = λ s found lt is. one.means.each_shard s found lt (left_of (shard s) found lt is);
    }

    pub rests : RestsOver state honest store shards stopped machine
    rests = record {
      sound = sound;
      rests = record {
        is_log = log_taken one.n log one.within is_log;
        horizon = omega (arith, low, one.holds);
        within = omega (arith, size);
        each = λ found is.
            let all : take one.n (take one.n log) ≡ take one.n log = take_all one.n (take one.n log) (omega (arith, size)) in (
              one.n,
              omega arith,
              omega (arith, size),
              subst (λ (l : List Entry). Means store shards l before.horizon found (at_shards now_left)) (sym all)
                  (subst (λ (f : List Record). Means store shards (take one.n log) before.horizon f (at_shards now_left)) (sym (at_coordinator.2 found is)) means),
            );
      };
      listed = λ s found lt is. means_lower shards s (take one.n log) (coordinator_state at_coordinator.0).horizon before.horizon (shard_state found) means.decided.above (means.each_shard s found lt is).means;
      given = λ w has found is.
          let at = contained_at (take one.n log) w has in
          let low_epoch = one.means.decided.given at.0 w at.1 in
          subst (λ (f : List Record). w.id.epoch ≤ (coordinator_state f).epoch) (sym (at_coordinator.2 found is)) low_epoch;
    }

    pub first_of_log : take one.n log ≡ take (length (take one.n log)) log
    first_of_log = ap (λ k. take k log) (sym size)

    pub told_still : (id : WriteId) → IsGivenOut (stops state honest store shards old coordinator) id → IsUnlistedAbove before.horizon id log → IsToldOver state honest store shards stopped machine id
    told_still id given none = record {
      given = λ found is. between.given id given found (left_of coordinator found tt is);
      none = λ j w is above. none j w (slice_get_taken one.n log j w is) above;
    }

  -- a stop within leaves what rests; whoever was told that an id is aborted is right, if neither log has it above the horizon
  pub stopped_rests : IsLog before.log → IsLog after.log → before.horizon ≤ before.kept
      → (m : Machine) × IsStopOf before after m × RestsOver state honest store shards stopped m
      × ((id : WriteId) → IsGivenOut (stops state honest store shards old coordinator) id → IsUnlistedAbove before.horizon id before.log → IsUnlistedAbove before.horizon id after.log
      → IsToldOver state honest store shards stopped m id)
  stopped_rests is_before is_after low = ⊎_elim
      (λ one. (
        machine before.log is_before low one,
        record { kept = one.holds; log = inl (first_of_log before.log is_before low one); horizon = refl },
        rests before.log is_before low one,
        λ id given a b. told_still before.log is_before low one id given a,
      ))
      (λ one. (
        machine after.log is_after low one,
        record { kept = one.holds; log = inr (first_of_log after.log is_after low one); horizon = refl },
        rests after.log is_after low one,
        λ id given a b. told_still after.log is_after low one id given b,
      ))
      (between.rests at_coordinator.0 at_coordinator.1)
