-- The coordinator's devices come back from a flight: what is durable then is kept, and the horizon follows.
use Rattle.std.proofs.Common.{◌≡◌, inl, inr, ⊎_elim, ℕ, ◌≤◌, List, [], length, take, Contains, sym, ◌∙◌, subst, arith}
use Rattle.std.proofs.lemmas.List.{length-take-le}
use Rattle.std.proofs.lemmas.List.Elements.{Contains-push_cases}
use Rattle.records.specs.declared.record.Record.{Record}
use Rattle.records.specs.Coordinators.{coordinator_state, end_of}
use Rattle.laws.specs.Worlds.{Means, Rests}
use Rattle.laws.proofs.CoordinatorStates.{end_is_length}
use Rattle.laws.proofs.LessLeft.{raised_means}
use Rattle.accord.specs.declared.parts.LogPart.{LogPart}
use Rattle.accord.specs.Agreeing.{Agree, AllNodes, log_leaves, shard_leaves}
use Rattle.accord.specs.Coordinators.{Lands, LandingsAgree, with_landing}

module _ (store shards : ℕ) (n : AllNodes) (flown : List Record) (a : Agree store shards n) (d : Lands n flown) where
  abbrev c : LogPart
  c = n.coordinator

  abbrev kept : ℕ
  kept = end_of (coordinator_state flown)

  abbrev horizon : ℕ
  horizon = (coordinator_state flown).horizon

  -- a list that means the first m writes has just so many
  ends : (m : ℕ) (found : List Record) → m ≤ length c.log → Means store shards (take m c.log) c.horizon found (shard_leaves n.shard) → end_of (coordinator_state found) ≡ m
  ends m found le means = end_is_length (take m c.log) c.horizon (coordinator_state found) means.decided ∙ length-take-le m c.log le

  of_flown : (m : ℕ) × (c.kept ≤ m) × (m ≤ length c.log) × Means store shards (take m c.log) c.horizon flown (shard_leaves n.shard)
  of_flown = a.rests.each flown (inl d.flew)

  is_kept : kept ≡ of_flown.0
  is_kept = ends of_flown.0 flown of_flown.2 of_flown.3

  within : horizon ≤ kept
  within = let long = length-take-le of_flown.0 c.log of_flown.2 in let low = of_flown.3.decided.within in omega (arith, is_kept, long, low)

  higher : (m : ℕ) (found : List Record) → horizon ≤ (coordinator_state found).horizon → Means store shards (take m c.log) c.horizon found (shard_leaves n.shard) → Means store shards (take m c.log) horizon found (shard_leaves n.shard)
  higher m found le = raised_means (log_leaves c) (log_leaves c) (shard_leaves n.shard) (shard_leaves n.shard) store shards (take m c.log) c.horizon horizon found d.raised le

  each : (found : List Record) → log_leaves (with_landing n flown).coordinator found → (m : ℕ) × (kept ≤ m) × (m ≤ length c.log) × Means store shards (take m c.log) horizon found (shard_leaves n.shard)
  each found (inl one) =
      let is : flown ≡ found = ⊎_elim (λ (none : Contains [] found). absurd (omega (arith, none.1))) (λ last. last) (Contains-push_cases [] flown found one) in
      (of_flown.0, omega (arith, is_kept), of_flown.2, subst (λ (l : List Record). Means store shards (take of_flown.0 c.log) horizon l (shard_leaves n.shard)) is (higher of_flown.0 flown (omega arith) of_flown.3))
  each found (inr all) =
      let was = a.rests.each found (inr all) in
      let end = ends was.0 found was.2 was.3 in
      let more : kept ≤ end_of (coordinator_state found) = subst (λ (l : List Record). kept ≤ end_of (coordinator_state l)) (sym all.1) d.decides in
      let rise : horizon ≤ (coordinator_state found).horizon = subst (λ (l : List Record). horizon ≤ (coordinator_state l).horizon) (sym all.1) d.raises in
      (was.0, omega (arith, end, more), was.2, higher was.0 found rise was.3)

  rests : Rests store shards c.log kept horizon (log_leaves (with_landing n flown).coordinator) (shard_leaves n.shard)
  rests = record { is_log = a.rests.is_log; horizon = within; within = (let le = of_flown.2 in omega (arith, is_kept, le)); each = each }

  agree : Agree store shards (with_landing n flown)
  agree = record {
    rests = rests;
    whole = λ up. raised_means (log_leaves c) (log_leaves c) (shard_leaves n.shard) (shard_leaves n.shard) store shards c.log c.horizon horizon c.known d.raised d.raises (a.whole up);
    listed = λ s found lt is.
        let m = a.listed s found lt is in
        let reached = (of_flown.3.each_shard s found lt is).means.settled in
        let low = m.1.horizon in
        let up = d.raised in
        (m.0, record { learned = m.1.learned; horizon = omega (arith, low, up); rows = m.1.rows; settled = reached; in_doubt = m.1.in_doubt });
    some = a.some;
    distinct = a.distinct;
    undecided = λ w has. let u = a.undecided w has in record { unlisted = u.unlisted; exact = u.exact };
  }

pub landings_agree : LandingsAgree
landings_agree store shards n flown a d = agree store shards n flown a d
