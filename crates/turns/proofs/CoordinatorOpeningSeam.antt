-- What the coordinator's own contracts of its opening and of its flush say, over the devices of a store.
use Rattle.std.proofs.Common.{◌≡◌, ◌≢◌, ◌⊎◌, inl, inr, ⊎_elim, ◌+◌, ◌≤◌, ◌++◌, ◌↔◌, ℕ, List, [], ◌∷◌, length, Some, refl, sym, ◌∙◌, ap, subst, arith}
use Rattle.std.proofs.lemmas.List.{length_push}
use Rattle.std.proofs.lemmas.Option.{same_Some}
use Rattle.turns.proofs.Words.{AreRevived, ComesUp, CoordinatorView, Finds, HasFailed, IsCoordinatorImage, IsReopenedCoordinator, IsSeen, Moment, NodeName, Nodes, OpensCoordinator, Record, Refusal, RefusesCoordinator, State, behind, coordinator, coordinator_node, coordinator_state, device_left, found, shard, stops, up}
use Rattle.decisions.specs.Coordinators.{IsOpenedCoordinator, WasLeftOrReopened, coordinator_opening}
use Rattle.stores.specs.FlushLaws.{IsOldOrSame}
use Rattle.turns.specs.CoordinatorOpeningLaws.{CoordinatorOpeningsStep, FailedOpeningsHaveCause, FailsOverDevices, FlushesOverDevices, FullCoordinatorsWereOpened, IsFresh, IsOverDevices, NoCoordinatorIsDamaged, OpensOverDevices, RefusedOpeningsStep, behind_refusal}
use Rattle.turns.proofs.CoordinatorOpening.{coordinator_openings_stand, refused_coordinators_stand}
use Rattle.turns.proofs.ShardPrepareSeam.{last_sync}
use Rattle.device.proofs.States.{revived_reads}

no_longer : (rs : List Record) (r : Record) → rs ≡ rs ++ r ∷ [] → ⊥
no_longer rs r same = let more = ap length same in omega (arith, more, length_push rs r)

-- Given the devices of a store, and those of the coordinator after a call
module _ {D : Type 0} (state : D → State) (honest : D → Type 0) (moment : D → ℕ) (left_since : D → ℕ → List ℕ → Type 0) (store shards : ℕ) (old new : NodeName → D × D) (new_a new_b : D)
    (over : IsOverDevices state honest moment left_since store shards old new_a new_b new) where
  pub to_node : (rs : List Record) → stops state honest store shards new coordinator rs → Finds (device_left (state new_a)) (device_left (state new_b)) rs
  to_node rs finds = subst (λ (d : D). Finds (device_left (state new_a)) (device_left (state d)) rs) over.second (subst (λ (d : D). Finds (device_left (state d)) (device_left (state (new coordinator).1)) rs) over.first finds)

  pub from_node : (rs : List Record) → Finds (device_left (state new_a)) (device_left (state new_b)) rs → stops state honest store shards new coordinator rs
  from_node rs finds = subst (λ (d : D). Finds (device_left (state (new coordinator).0)) (device_left (state d)) rs) (sym over.second) (subst (λ (d : D). Finds (device_left (state d)) (device_left (state new_b)) rs) (sym over.first) finds)

  no_shard : (s : ℕ) → shard s ≢ coordinator
  no_shard s is = cc

  pub elsewhere : (s : ℕ) (rs : List Record) → stops state honest store shards new (shard s) rs ↔ stops state honest store shards old (shard s) rs
  elsewhere s rs = (
    subst (λ (d : D × D). Finds (device_left (state d.0)) (device_left (state d.1)) rs) (over.others (shard s) (no_shard s)),
    subst (λ (d : D × D). Finds (device_left (state d.0)) (device_left (state d.1)) rs) (sym (over.others (shard s) (no_shard s))),
  )

-- Given what a device holds and whether it is honest, how often a stop may have come at it, and what a stop since then may have left, now among it
module _ {D : Type 0} (state : D → State) (honest : D → Type 0) (moment : D → ℕ) (left_since : D → ℕ → List ℕ → Type 0)
    (counts_now : (d : D) (t : ℕ) (c : List ℕ) → honest d → t ≤ moment d → device_left (state d) c → left_since d t c) (store shards : ℕ) (old new : NodeName → D × D) (a b : D)
    (revived : AreRevived state honest moment left_since store shards old coordinator a b) where
  abbrev before : NodeName → List Record → Type 0
  before = stops state honest store shards old

  abbrev after : NodeName → List Record → Type 0
  after = stops state honest store shards new

  -- what reads then a stop could leave before
  pub was_left : (rs : List Record) → found (state a).seen (state b).seen ≡ Some rs → before coordinator rs
  was_left rs is = ((state a).seen, (state b).seen, revived.first.found, revived.second.found, is)

  pub failed : (x y z : State) → x.failures ≤ y.failures → HasFailed y z → HasFailed x z
  failed x y z le has = ⊎_elim (λ more. inl (omega (arith, more, le))) (λ most. inr most) has

  module _ (new_a new_b : D) (over : OpensOverDevices state honest moment left_since store shards old a b new_a new_b new) where
    each : (x y : List ℕ) → device_left (state new_a) x → device_left (state new_b) y → WasLeftOrReopened (coordinator_node store shards) (state a) (state b) x y
    each x y in_a in_b = over.any_moment.each x y (counts_now new_a (moment a) x over.honest_a over.any_moment.later_a in_a) (counts_now new_b (moment b) y over.honest_b over.any_moment.later_b in_b)

    -- contents that could be left before the opening are those that were found
    reads : (x y : List ℕ) → device_left (state a) x × device_left (state b) y → found x y ≡ found (state a).seen (state b).seen
    reads x y was = ap (λ (c : List ℕ). found c y) (revived_reads _ (state a) revived.first x was.0) ∙ ap (found (state a).seen) (revived_reads _ (state b) revived.second y was.1)

    pub was_or_reopened : (x y : List ℕ) (rs : List Record) → found x y ≡ Some rs → WasLeftOrReopened (coordinator_node store shards) (state a) (state b) x y
        → before coordinator rs ⊎ IsReopenedCoordinator store shards before rs
    was_or_reopened x y rs is (inl was) = inl (was_left rs (sym (reads was.0 was.1 (was.2, was.3)) ∙ sym was.4 ∙ is))
    was_or_reopened x y rs is (inr more) = inr (record {
      found = more.0;
      epoch = (coordinator_state more.0).epoch + 1;
      was_left = was_left more.0 more.1;
      is = same_Some rs (more.0 ++ coordinator_opening (coordinator_node store shards) more.0 ∷ []) (sym is ∙ more.3);
      image = more.2;
    })

    pub refuses_it : (now : Moment) (e : Refusal) → RefusesCoordinator store shards before after e now.nodes (behind_refusal now.nodes e)
    refuses_it now e = record {
      now = refl;
      unchanged = λ s. refl;
      open_writes = refl;
      same = elsewhere state honest moment left_since store shards old new new_a new_b over.over;
      here = λ rs finds. let at = to_node state honest moment left_since store shards old new new_a new_b over.over rs finds in was_or_reopened at.0 at.1 rs at.4 (each at.0 at.1 at.2 at.3);
    }

  -- Given that it answered Ok
  module _ (v : CoordinatorView D) (opened : IsOpenedCoordinator state honest a b (coordinator_node store shards) v) (fresh : IsFresh v) (over : OpensOverDevices state honest moment left_since store shards old a b v.a v.b new) where
    abbrev found_with : List Record
    found_with = opened.rs ++ coordinator_opening (coordinator_node store shards) opened.rs ∷ []

    durable_there : found (state v.a).durable (state v.b).durable ≡ Some v.durable
    durable_there = opened.running.rest (state v.a).durable (state v.b).durable (last_sync (state v.a)) (last_sync (state v.b))

    image : IsCoordinatorImage (coordinator_node store shards) found_with
    image = by_case (each v.a v.b over (state v.a).durable (state v.b).durable (last_sync (state v.a)) (last_sync (state v.b)))
      where
        -- what was found is shorter by the opening
        never : found (state v.a).durable (state v.b).durable ≡ found (state a).seen (state b).seen → ⊥
        never same = no_longer opened.rs (coordinator_opening (coordinator_node store shards) opened.rs) (same_Some opened.rs found_with (sym opened.was ∙ sym same ∙ durable_there ∙ ap Some opened.durable))

        by_case : WasLeftOrReopened (coordinator_node store shards) (state a) (state b) (state v.a).durable (state v.b).durable → IsCoordinatorImage (coordinator_node store shards) found_with
        by_case (inl was) = absurd (never (was.4 ∙ reads v.a v.b over was.0 was.1 (was.2, was.3)))
        by_case (inr more) = subst (λ (rs : List Record). IsCoordinatorImage (coordinator_node store shards) (rs ++ coordinator_opening (coordinator_node store shards) rs ∷ [])) (same_Some more.0 opened.rs (sym more.1 ∙ opened.was)) more.2

    abbrev next : Nodes → Nodes
    next nodes = behind nodes v []

    pub is_up : up v.durable v.staged ≡ up found_with []
    is_up = ap (λ (l : List Record). up l v.staged) opened.durable ∙ ap (up found_with) fresh.staged

    pub opens : (now : Moment) → OpensCoordinator store shards before after now.nodes (next now.nodes)
    opens now = record {
      found = opened.rs;
      epoch = (coordinator_state opened.rs).epoch + 1;
      was_left = was_left opened.rs opened.was;
      now = is_up;
      unchanged = λ s. refl;
      open_writes = refl;
      given = fresh.given;
      same = elsewhere state honest moment left_since store shards old new v.a v.b over.over;
      here = λ rs. (
        λ finds. let at = to_node state honest moment left_since store shards old new v.a v.b over.over rs finds in same_Some rs found_with (sym at.4 ∙ opened.running.rest at.0 at.1 at.2 at.3 ∙ ap Some opened.durable),
        λ is. from_node state honest moment left_since store shards old new v.a v.b over.over rs ((state v.a).durable, (state v.b).durable, last_sync (state v.a), last_sync (state v.b), durable_there ∙ ap Some (opened.durable ∙ sym is)),
      );
    }

    pub came_up : (now : Moment) → ComesUp state honest moment left_since store shards old coordinator ((next now.nodes).at coordinator)
    came_up now = record { was = opened.rs; was_left = was_left opened.rs opened.was; is_up = is_up }

    pub seen_after : (now : Moment) → IsSeen (next now.nodes) v
    seen_after now = record { at = refl; open_writes = sym fresh.open_ids; given = refl }

module _ {D : Type 0} (state : D → State) (honest : D → Type 0) (moment : D → ℕ) (left_since : D → ℕ → List ℕ → Type 0)
    (counts_now : (d : D) (t : ℕ) (c : List ℕ) → honest d → t ≤ moment d → device_left (state d) c → left_since d t c) (store shards : ℕ) where
  pub coordinator_openings_step : CoordinatorOpeningsStep state honest moment left_since store shards
  unfolding opens
  coordinator_openings_step old new now a b v st revived opened fresh over =
      let stands = coordinator_openings_stand store shards (stops state honest store shards old) (stops state honest store shards new) now (behind now.nodes v []) st
      (opens state honest moment left_since counts_now store shards old new a b revived v opened fresh over now)
      (image state honest moment left_since counts_now store shards old new a b revived v opened fresh over) in (
        seen_after state honest moment left_since counts_now store shards old new a b revived v opened fresh over now,
        stands.0,
        stands.1,
        came_up state honest moment left_since counts_now store shards old new a b revived v opened fresh over now,
      )

  pub refused_openings_step : RefusedOpeningsStep state honest moment left_since store shards
  refused_openings_step old new now a b new_a new_b e st revived of over =
      refused_coordinators_stand store shards (stops state honest store shards old) (stops state honest store shards new) now (behind_refusal now.nodes e) e st of
      (refuses_it state honest moment left_since counts_now store shards old new a b revived new_a new_b over now e)

  pub full_coordinators_were_opened : FullCoordinatorsWereOpened state honest moment left_since store shards
  full_coordinators_were_opened old a b revived full = (full.0, was_left state honest moment left_since counts_now store shards old old a b revived full.0 full.1, full.3)

  pub failed_openings_have_cause : FailedOpeningsHaveCause state honest moment left_since store shards
  failed_openings_have_cause old new a b revived failure = ⊎_elim
      (λ of_a. inl (failed state honest moment left_since counts_now store shards old new a b revived (state (old coordinator).0) (state a) (state (new coordinator).0) revived.counts_a of_a))
      (λ of_b. inr (inl (failed state honest moment left_since counts_now store shards old new a b revived (state (old coordinator).1) (state b) (state (new coordinator).1) revived.counts_b of_b)))
      failure

  pub no_coordinator_is_damaged : NoCoordinatorIsDamaged state honest moment left_since store shards
  no_coordinator_is_damaged old a b log kept h revived rests readable damaged =
      let reads = readable (state a).seen (state b).seen revived.first.found revived.second.found in
      damaged reads.0 reads.1 (rests.each reads.0 (was_left state honest moment left_since counts_now store shards old old a b revived reads.0 reads.1)).3.image

  pub flushes_over_devices : FlushesOverDevices state honest moment left_since store shards
  flushes_over_devices old new now was v seen running same none keeps over = (
    record { at = refl; open_writes = seen.open_writes ∙ sym keeps.open_ids; given = refl },
    record {
      durable = was.durable;
      staged = was.staged;
      records = v.durable;
      was = seen.at;
      now = ap (up v.durable) none;
      stand_for = same;
      shards = λ s. refl;
      open_writes = refl;
      given = keeps.given ∙ sym seen.given;
      same = elsewhere state honest moment left_since store shards old new v.a v.b over;
      here = λ rs. (
        λ finds. let at = to_node state honest moment left_since store shards old new v.a v.b over rs finds in same_Some rs v.durable (sym at.4 ∙ running.rest at.0 at.1 at.2 at.3),
        λ is. from_node state honest moment left_since store shards old new v.a v.b over rs (
          (state v.a).durable,
          (state v.b).durable,
          last_sync (state v.a),
          last_sync (state v.b),
          running.rest (state v.a).durable (state v.b).durable (last_sync (state v.a)) (last_sync (state v.b)) ∙ ap Some (sym is),
        ),
      );
    },
  )

  pub fails_over_devices : FailsOverDevices state honest moment left_since store shards
  fails_over_devices old new now was v seen over honest_a honest_b moments = record {
    durable = was.durable;
    staged = was.staged;
    was = seen.at;
    now = refl;
    unchanged = λ s. refl;
    open_writes = refl;
    given = refl;
    same = elsewhere state honest moment left_since store shards old new v.a v.b over;
    here = λ rs finds.
        let at = to_node state honest moment left_since store shards old new v.a v.b over rs finds in
        let one = moments.each at.0 at.1 (counts_now v.a (moment was.a) at.0 honest_a moments.later_a at.2) (counts_now v.b (moment was.b) at.1 honest_b moments.later_b at.3) in
        subst (IsOldOrSame coordinator was.durable was.staged) (same_Some one.0 rs (sym one.1 ∙ at.4)) one.2;
  }
