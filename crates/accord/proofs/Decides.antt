-- The coordinator stages a decision: all nodes agree on the longer list.
use Rattle.std.proofs.Common.{◌≡◌, ◌≢◌, inl, inr, ⊎_elim, ℕ, ◌<◌, ◌≤◌, ◌+◌, false, List, [], ◌∷◌, ◌++◌, drop, Option, Some, None, All, Contains, slice_get, refl, sym, ◌∙◌, ap, subst, cond, arith}
use Rattle.std.proofs.lemmas.Bool.{both_ways, cases_Bool}
use Rattle.tuples.specs.declared.change.Condition.{Condition}
use Rattle.tuples.specs.declared.entry.Entry.{Entry}
use Rattle.tuples.specs.Log.{HoldAfter}
use Rattle.tuples.specs.Parts.{expected, part, takes_part}
use Rattle.tuples.proofs.Lists.{contained_at, contained_from, slice_get_drop, slice_get_push}
use Rattle.records.specs.declared.record.Record.{Record}
use Rattle.records.specs.declared.record.Record.TheVariants.{Decision}
use Rattle.records.specs.Coordinators.{HoldsKnown, IsCoordinatorImage, IsNotDecided, MayDecide, coordinator_state}
use Rattle.records.specs.Replays.{find_in_doubt, shard_state, without}
use Rattle.holds.specs.Holds.{AreApart}
use Rattle.laws.specs.CoordinatorLaws.{IsPreparedInAll}
use Rattle.laws.specs.Worlds.{Means, Rests, coordinator_node, shard_node}
use Rattle.laws.proofs.CoordinatorStates.{coordinator_image_push}
use Rattle.laws.proofs.CoordinatorSteps.{decisions_rest}
use Rattle.laws.proofs.DecisionStep.{listed_means}
use Rattle.laws.proofs.Locks.{doubts_apart, of_without}
use Rattle.laws.proofs.WriteConditions.{conditions_hold_as_known, conditions_hold_by_parts, decisions_leave_conditions}
use Rattle.laws.proofs.Without.{new_without, other_without}
use Rattle.accord.specs.declared.parts.LogPart.{LogPart}
use Rattle.accord.specs.Agreeing.{Agree, AllNodes, IsUndecided, log_leaves, shard_leaves}
use Rattle.accord.specs.Coordinators.{Decides, DecisionsAgree, VotesStayAtDecisions, with_decision}

module _ (store shards : ℕ) (n : AllNodes) (place : ℕ) (w : Entry) (a : Agree store shards n) (d : Decides shards n place w) where
  abbrev c : LogPart
  c = n.coordinator

  own : IsUndecided shards n w
  own = a.undecided w d.is_open

  none_found : (s : ℕ) (found : List Record) → s < shards → shard_leaves n.shard s found → takes_part shards s w ≡ false → (o : Option Entry) → find_in_doubt w.id (shard_state found).in_doubt ≡ o → o ≡ None
  none_found s found lt is absent None has = refl
  none_found s found lt is absent (Some p) has = absurd (both_ways _ absent (own.exact s found p lt is has).0)

  -- whatever a stop leaves of a shard has its part of the write, if it has one
  prepared : IsPreparedInAll shards (shard_leaves n.shard) w
  unfolding expected
  prepared s found lt is = ⊎_elim
      (λ takes. d.voted s lt takes w d.is_open refl found is ∙ ap (λ b. cond b (Some (part shards s w)) None) (sym takes))
      (λ absent. none_found s found lt is absent (find_in_doubt w.id (shard_state found).in_doubt) refl ∙ ap (λ b. cond b (Some (part shards s w)) None) (sym absent))
      (cases_Bool (takes_part shards s w))

  -- and its conditions hold
  hold : HoldAfter c.log w.conditions
  hold = conditions_hold_by_parts shards c.log w d.some (λ s lt takes.
      let f = a.some s lt in
      (own.exact s f.0 (part shards s w) lt f.1 (d.voted s lt takes w d.is_open refl f.0 f.1)).2)

  means : Means store shards c.log c.horizon c.known (shard_leaves n.shard)
  means = a.whole d.up

  not_decided : IsNotDecided w.id (coordinator_state c.known)
  not_decided j v is same =
      let at : slice_get (drop (coordinator_state c.known).base c.log) j ≡ Some v = ap (λ (l : List Entry). slice_get l j) (sym means.decided.decisions) ∙ is in
      own.unlisted ((coordinator_state c.known).base + j) v (sym (slice_get_drop (coordinator_state c.known).base c.log j) ∙ at) (sym same)

  known : All (HoldsKnown (coordinator_state c.known)) w.conditions
  unfolding HoldAfter
  known = all_known w.conditions hold
    where
      all_known : (cs : List Condition) → HoldAfter c.log cs → All (HoldsKnown (coordinator_state c.known)) cs
      all_known cs is j e lt = conditions_hold_as_known c.log c.horizon (coordinator_state c.known) _ means.decided (is j e lt)

  may : MayDecide (coordinator_state c.known) place w
  may = record {
    opened = subst (λ (e : ℕ). 1 ≤ e) d.epoch d.intent.id.begun.epoch;
    next = d.place_is;
    place_fits = d.fits;
    new = not_decided;
    conditions = known;
    some_epoch = d.intent.id.begun.epoch;
    epoch = d.intent.id.epoch;
    some_number = d.intent.id.begun.number;
    number = d.intent.id.number;
    places = d.intent.places;
  }

  image : IsCoordinatorImage (coordinator_node store shards) (c.known ++ Decision place w ∷ [])
  image = coordinator_image_push (coordinator_node store shards) c.known (Decision place w) means.image may

  both : Rests store shards (c.log ++ w ∷ []) c.kept c.horizon (log_leaves (with_decision n place w).coordinator) (shard_leaves n.shard)
      × Means store shards (c.log ++ w ∷ []) c.horizon (c.known ++ Decision place w ∷ []) (shard_leaves n.shard)
  both =
      let e = d.epoch in
      decisions_rest (log_leaves c) (log_leaves (with_decision n place w).coordinator) (shard_leaves n.shard) store shards c.log c.kept c.horizon c.known place w
      (record { rests = a.rests; here = inr (d.up, refl); image = image; adds = λ found is. ⊎_elim (λ old. inl (inl old)) (λ new. inr new.1) is })
      means
      (record { whole = d.intent.whole; new = own.unlisted; given = omega (arith, e); prepared = prepared; conditions = hold })

  was_open : (v : Entry) → Contains (without w.id c.open_writes) v → Contains c.open_writes v × (v.id ≢ w.id)
  was_open v has =
      let at = contained_at (without w.id c.open_writes) v has in
      let old = of_without w.id c.open_writes at.0 v at.1 in
      (contained_from c.open_writes old.0 v old.1, other_without w.id c.open_writes v has)

  -- another open write is undecided still: no write in doubt beside it shares a tuple with this one
  still : (v : Entry) → Contains c.open_writes v → v.id ≢ w.id → IsUndecided shards (with_decision n place w) v
  still v here ne =
      let u = a.undecided v here in
      record {
        unlisted = λ j x at same. ⊎_elim (λ old. u.unlisted j x old same) (λ new. ne (same ∙ ap (λ (y : Entry). y.id) (sym new.1))) (slice_get_push c.log w x j at);
        exact = λ s found p lt is has.
            let e = u.exact s found p lt is has in
            let apart : AreApart (shard_state found).in_doubt = doubts_apart (shard_node store shards s) found (a.listed s found lt is).0 in
            let as_part : HoldAfter c.log (part shards s v).conditions = subst (λ (q : Entry). HoldAfter c.log q.conditions) e.1 e.2 in
            let longer = decisions_leave_conditions shards s c.log v w (shard_state found).in_doubt apart ne (prepared s found lt is) (has ∙ ap (λ (q : Entry). Some q) e.1) as_part in
            (e.0, e.1, subst (λ (q : Entry). HoldAfter (c.log ++ w ∷ []) q.conditions) (sym e.1) longer);
      }

  agree : Agree store shards (with_decision n place w)
  agree = record {
    rests = both.0;
    whole = λ up. both.1;
    listed = λ s found lt is. let m = a.listed s found lt is in (m.0, listed_means shards s c.log w c.horizon c.horizon (shard_state found) (prepared s found lt is) m.1);
    some = a.some;
    distinct = new_without w.id c.open_writes a.distinct;
    undecided = λ v has. let was = was_open v has in still v was.0 was.1;
  }

pub decisions_agree : DecisionsAgree
decisions_agree store shards n place w a d = agree store shards n place w a d

pub votes_stay_at_decisions : VotesStayAtDecisions
votes_stay_at_decisions shards n place w s id voted v has same found is =
    let at = contained_at (without w.id n.coordinator.open_writes) v has in
    let old = of_without w.id n.coordinator.open_writes at.0 v at.1 in
    voted v (contained_from n.coordinator.open_writes old.0 v old.1) same found is
