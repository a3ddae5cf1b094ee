-- The step of a run that an opening of one node is, over the devices of a store.
use Rattle.std.proofs.Common.{◌≡◌, ◌≢◌, inl, inr, ⊎_elim, ◌<◌, ◌≤◌, ℕ, List, [], ◌∷◌, map, refl, sym, ◌∙◌, ap, subst}
use Rattle.headline.proofs.Words.{AreSound, Damaged, Down, Entry, Finds, IsFound, IsHorizonIn, IsOfRefusedOpening, IsRevived, IsThere, Moment, NodeName, NodeView, Opens, Record, Refusal, Reopened, Restarts, Rests, Stands, State, Told, WriteId, at_shards, coordinator, coordinator_state, cut_to, devices_of, last_sync, leaves, left, less_rests, named, refused, shard, shown, stops}
use Rattle.calls.specs.Opening.{IsOpeningRefusal, refusal_of}
use Rattle.calls.specs.Views as views
use Rattle.cluster.specs.Steps.{told_of_opening}
use Rattle.stores.specs.StagingLaws.{with_nodes}
use Rattle.turns.specs.CoordinatorOpeningLaws.{IsOverDevices, behind_refusal}
use Rattle.turns.specs.RestartLaws.{with_restart}
use Rattle.turns.specs.SeamLaws.{behind}
use Rattle.turns.specs.ShardOpeningLaws.{IsOver, put_at}
use Rattle.turns.specs.ShardSeamLaws.{behind_shard}
use Rattle.turns.proofs.CoordinatorOpening.{refused_coordinators_stand}
use Rattle.turns.proofs.CoordinatorOpeningSeam as of_coordinator
use Rattle.turns.proofs.RefusedOpening.{refused_shards_stand}
use Rattle.turns.proofs.ShardFailedSeam as failed_shard
use Rattle.turns.proofs.ShardOpeningSeam as of_shard
use Rattle.turns.proofs.ShardSeam.{here, put_elsewhere, put_here}
use Rattle.headline.specs.Told.{told_of}
use Rattle.headline.proofs.Causes.{are_revived, shown_up}
use Rattle.headline.proofs.Within.{less_left}

-- what is told of a node that was opened
abbrev pub told_by : {D : Type 0} → NodeView D → Told
told_by is = told_of (told_of_opening (refusal_of is))

-- what lies in the coordinator's memory alone, after an opening of a node: it forgets the open writes if it is opened itself, and if it comes up it has
-- given no number
abbrev pub ids_behind : NodeName → List WriteId → List WriteId
ids_behind coordinator ids = []
ids_behind (shard s) ids = ids

abbrev pub given_behind : {D : Type 0} → NodeName → NodeView D → ℕ → ℕ
given_behind coordinator (views.coordinator v) given = v.given
given_behind coordinator (views.shard v) given = given
given_behind coordinator (views.refused e a b) given = given
given_behind (shard s) is given = given

-- a refusal of an opening that is not for damage
not_for_damage : (e : Refusal) → IsOpeningRefusal e → (e ≡ Damaged → ⊥) → IsOfRefusedOpening e
not_for_damage e (inl is) not = inl is
not_for_damage e (inr (inl is)) not = inr (inl is)
not_for_damage e (inr (inr (inl is))) not = inr (inr is)
not_for_damage e (inr (inr (inr is))) not = absurd (not is)

module _ {D : Type 0} (state : D → State) (honest : D → Type 0) (moment : D → ℕ) (left_since : D → ℕ → List ℕ → Type 0)
    (counts_now : (d : D) (t : ℕ) (c : List ℕ) → honest d → t ≤ moment d → left (state d) c → left_since d t c) (only_now : (d : D) (c : List ℕ) → honest d → left_since d (moment d) c → left (state d) c)
    (store shards : ℕ) where
  -- An opening of this node leads from a moment to another, for which a store over the new devices stands: it is a step of a run, and the node then shows
  -- what it was opened to.
  pub record IsStepped (old new : NodeName → D × D) (now : Moment) (n : NodeName) (is : NodeView D) : Type 0 where
    pub after : Moment
    pub stands : Stands store shards (stops state honest store shards new) after
    pub step : Restarts shards (IsHorizonIn store shards (stops state honest store shards old) now.nodes) now n (told_by is ∷ []) after
    pub at : after.nodes.at n ≡ shown is
    pub open_ids : map (λ (w : Entry). w.id) after.nodes.open_writes ≡ ids_behind n (map (λ (w : Entry). w.id) now.nodes.open_writes)
    pub given : after.nodes.given ≡ given_behind n is now.nodes.given

  module _ (old new : NodeName → D × D) (now : Moment) (st : Stands store shards (stops state honest store shards old) now) (sound : AreSound state honest store shards old) where
    abbrev before : NodeName → List Record → Type 0
    before = stops state honest store shards old

    abbrev after : NodeName → List Record → Type 0
    after = stops state honest store shards new

    -- this much rests without what is staged
    plain : Rests store shards now.machine.log now.machine.kept now.machine.horizon (before coordinator) (at_shards before)
    plain = (less_rests (leaves before now.nodes coordinator) (before coordinator) (at_shards (leaves before now.nodes)) (at_shards before) store shards now.machine.log now.machine.kept now.machine.horizon
        (λ found is. (found, is, inl refl)) (λ t found is. (found, is, inl refl))).0 st.rests

    some : (rs : List Record) × before coordinator rs
    some =
        let a = state (old coordinator).0 in
        let b = state (old coordinator).1 in
        let rs = sound.readable coordinator a.durable b.durable tt (last_sync a) (last_sync b) in
        (rs.0, (a.durable, b.durable, last_sync a, last_sync b, rs.1))

    -- the records of a node over two devices of which each leaves no more than before
    less_finds : (n : NodeName) (a b : D) → honest (old n).0 → honest (old n).1 → IsRevived state honest moment left_since (old n).0 a → IsRevived state honest moment left_since (old n).1 b
        → (rs : List Record) → Finds (left (state a)) (left (state b)) rs → before n rs
    less_finds n a b hon_a hon_b ra rb rs (c, d, in_c, in_d, is) = (
      c,
      d,
      less_left state honest moment left_since counts_now only_now (old n).0 a hon_a ra c in_c,
      less_left state honest moment left_since counts_now only_now (old n).1 b hon_b rb d in_d,
      is,
    )

    module _ (s : ℕ) (lt : s < shards) (others : (m : NodeName) → m ≢ shard s → new m ≡ old m) where
      hon_a : honest (old (shard s)).0
      hon_a = sound.honest_a (shard s) lt

      hon_b : honest (old (shard s)).1
      hon_b = sound.honest_b (shard s) lt

      over_shard : (x y : D) → new (shard s) ≡ (x, y) → IsOver state honest moment left_since store shards old s x y new
      over_shard x y is = record { first = ap (λ (p : D × D). p.0) is; second = ap (λ (p : D × D). p.1) is; others = others }

      module _ (a b : D) (ra : IsRevived state honest moment left_since (old (shard s)).0 a) (rb : IsRevived state honest moment left_since (old (shard s)).1 b) where
        shard_by_view : IsFound state honest moment left_since (old (shard s)).0 a → IsFound state honest moment left_since (old (shard s)).1 b → (is : NodeView D)
            → Opens state honest moment left_since store shards (named (shard s)) a b is → new (shard s) ≡ devices_of is → IsStepped old new now (shard s) is
        shard_by_view fa fb (views.coordinator v) o over = absurd o
        shard_by_view fa fb (views.shard v) o over =
            let revived = are_revived state honest moment left_since store shards old new (shard s) a b hon_a hon_b ra rb fa fb in
            let opened = o.ok (ra.still_honest.0 hon_a) (rb.still_honest.0 hon_b) in
            let stepped = of_shard.shard_openings_step state honest moment left_since store shards old new now s a b v st lt revived opened o.fresh.0 o.fresh.2 (over_shard v.a v.b over) in
            record {
              after = with_nodes now (behind_shard s now.nodes v);
              stands = stepped.0;
              step = stepped.1;
              at = here s now.nodes v ∙ sym (shown_up v.is_down v.durable v.staged o.fresh.1);
              open_ids = refl;
              given = refl;
            }
        shard_by_view fa fb (views.refused e x y) o over =
            let revived = are_revived state honest moment left_since store shards old new (shard s) a b hon_a hon_b ra rb fa fb in
            let honest_now : honest a × honest b = (ra.still_honest.0 hon_a, rb.still_honest.0 hon_b) in
            let of_opening = not_for_damage e o.err (λ damaged. of_shard.no_shard_is_damaged state honest moment left_since store shards old s a b now.machine.log now.machine.kept now.machine.horizon revived lt plain some
            (λ c d in_c in_d. sound.readable (shard s) c d lt in_c in_d) (o.damaged honest_now.0 honest_now.1 damaged)) in
            let stepped = failed_shard.refused_openings_step state honest moment left_since counts_now store shards old new now s a b x y e st revived
            (o.still_honest.0.0 honest_now.0) (o.still_honest.1.0 honest_now.1) (o.any_moment honest_now.0 honest_now.1) of_opening (over_shard x y over) in
            record {
              after = with_nodes now (put_at s (refused e) now.nodes);
              stands = stepped.0;
              step = stepped.1;
              at = put_here s (refused e) now.nodes.at;
              open_ids = refl;
              given = refl;
            }

        shard_by_failure : new (shard s) ≡ (a, b) → IsStepped old new now (shard s) (views.refused Down a b)
        shard_by_failure over =
            let is_over = over_shard a b over in
            let stepped = refused_shards_stand store shards before after now (put_at s (refused Down) now.nodes) s Down st (inl refl) (record {
              now = put_here s (refused Down) now.nodes.at;
              others = record { others = put_elsewhere s (refused Down) now.nodes.at; open_writes = λ ne. refl; given = λ ne. refl };
              same = λ n rs ne. of_shard.left_elsewhere state honest moment left_since store shards old new s a b is_over n rs ne;
              here = λ rs is. inl (less_finds (shard s) a b hon_a hon_b ra rb rs (of_shard.to_shard state honest moment left_since store shards old new s a b is_over rs is));
            }) in
            record {
              after = with_nodes now (put_at s (refused Down) now.nodes);
              stands = stepped.0;
              step = stepped.1;
              at = put_here s (refused Down) now.nodes.at;
              open_ids = refl;
              given = refl;
            }

    module _ (others : (m : NodeName) → m ≢ coordinator → new m ≡ old m) where
      over_node : (x y : D) → new coordinator ≡ (x, y) → IsOverDevices state honest moment left_since store shards old x y new
      over_node x y is = record { first = ap (λ (p : D × D). p.0) is; second = ap (λ (p : D × D). p.1) is; others = others }

      module _ (a b : D) (ra : IsRevived state honest moment left_since (old coordinator).0 a) (rb : IsRevived state honest moment left_since (old coordinator).1 b) where
        first : honest a
        first = ra.still_honest.0 (sound.honest_a coordinator tt)

        second : honest b
        second = rb.still_honest.0 (sound.honest_b coordinator tt)

        coordinator_by_view : IsFound state honest moment left_since (old coordinator).0 a → IsFound state honest moment left_since (old coordinator).1 b → (is : NodeView D)
            → Opens state honest moment left_since store shards (named coordinator) a b is → new coordinator ≡ devices_of is → IsStepped old new now coordinator is
        coordinator_by_view fa fb (views.coordinator v) o over =
            let revived = are_revived state honest moment left_since store shards old new coordinator a b (sound.honest_a coordinator tt) (sound.honest_b coordinator tt) ra rb fa fb in
            let opened = o.ok first second in
            let stepped = of_coordinator.coordinator_openings_step state honest moment left_since counts_now store shards old new now a b v st revived opened
            (record { staged = o.fresh.0; open_ids = o.fresh.3; given = o.fresh.4 })
            (record { over = over_node v.a v.b over; honest_a = o.still_honest.0.0 first; honest_b = o.still_honest.1.0 second; any_moment = o.any_moment first second }) in
            record {
              after = with_restart now (behind now.nodes v []) (cut_to now.machine (coordinator_state opened.rs));
              stands = stepped.1;
              step = stepped.2;
              at = sym (shown_up v.is_down v.durable v.staged o.fresh.1);
              open_ids = refl;
              given = refl;
            }
        coordinator_by_view fa fb (views.shard v) o over = absurd o
        coordinator_by_view fa fb (views.refused e x y) o over =
            let revived = are_revived state honest moment left_since store shards old new coordinator a b (sound.honest_a coordinator tt) (sound.honest_b coordinator tt) ra rb fa fb in
            let of_opening = not_for_damage e o.err (λ damaged. of_coordinator.no_coordinator_is_damaged state honest moment left_since counts_now store shards old a b now.machine.log now.machine.kept now.machine.horizon revived plain
            (λ c d in_c in_d. sound.readable coordinator c d tt in_c in_d) (o.damaged first second damaged)) in
            let stepped = of_coordinator.refused_openings_step state honest moment left_since counts_now store shards old new now a b x y e st revived of_opening
            (record { over = over_node x y over; honest_a = o.still_honest.0.0 first; honest_b = o.still_honest.1.0 second; any_moment = o.any_moment first second }) in
            record {
              after = with_restart now (behind_refusal now.nodes e) now.machine;
              stands = stepped.0;
              step = stepped.1;
              at = refl;
              open_ids = refl;
              given = refl;
            }

        coordinator_by_failure : new coordinator ≡ (a, b) → IsStepped old new now coordinator (views.refused Down a b)
        coordinator_by_failure over =
            let is_over = over_node a b over in
            let stepped = refused_coordinators_stand store shards before after now (behind_refusal now.nodes Down) Down st (inl refl) (record {
              now = refl;
              unchanged = λ s. refl;
              open_writes = refl;
              same = of_coordinator.elsewhere state honest moment left_since store shards old new a b is_over;
              here = λ rs is. inl (less_finds coordinator a b (sound.honest_a coordinator tt) (sound.honest_b coordinator tt) ra rb rs (of_coordinator.to_node state honest moment left_since store shards old new a b is_over rs is));
            }) in
            record {
              after = with_restart now (behind_refusal now.nodes Down) now.machine;
              stands = stepped.0;
              step = stepped.1;
              at = refl;
              open_ids = refl;
              given = refl;
            }

    -- so it is in each case
    pub stepped : (n : NodeName) → IsThere shards n → ((m : NodeName) → m ≢ n → new m ≡ old m) → (is : NodeView D)
        → Reopened state honest moment left_since store shards (named n) (old n).0 (old n).1 is → new n ≡ devices_of is → IsStepped old new now n is
    stepped coordinator there others is r over = ⊎_elim
        (λ found. coordinator_by_view others r.a r.b r.revived_a r.revived_b found.0 found.1 is found.2 over)
        (λ failed. subst (IsStepped old new now coordinator) (sym failed.0) (coordinator_by_failure others r.a r.b r.revived_a r.revived_b (over ∙ ap devices_of failed.0)))
        r.opens
    stepped (shard s) there others is r over = ⊎_elim
        (λ found. shard_by_view s there others r.a r.b r.revived_a r.revived_b found.0 found.1 is found.2 over)
        (λ failed. subst (IsStepped old new now (shard s)) (sym failed.0) (shard_by_failure s there others r.a r.b r.revived_a r.revived_b (over ∙ ap devices_of failed.0)))
        r.opens
