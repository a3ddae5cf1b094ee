-- A flush of a node of a store that stands is quiet, whether it answers Ok or fails.
use Rattle.std.proofs.Common.{◌≡◌, ◌≢◌, inl, inr, ⊎_elim, ◌≤◌, ℕ, true, false, true≢false, List, [], ◌++◌, Some, Ok, Err, Result, refl, sym, ◌∙◌, ap, subst, if◌then◌else◌}
use Rattle.std.proofs.lemmas.Bool.{cases_Bool}
use Rattle.std.proofs.lemmas.List.{append-nil}
use Rattle.std.proofs.lemmas.Option.{same_Some}
use Rattle.flow_turns.proofs.CallWords.{Answered, AreSound, CoordinatorView, Down, IsAway, IsCalled, IsMade, IsQuietCall, IsRunning, IsSeen, IsUp, Machine, Moment, NodeName, NodeState, NodeView, Nodes, Record, Refusal, ShardIsSeen, ShardView, ShowsNodes, StandFor, StandsOver, State, Store, Unsure, behind, behind_shard, coordinator, down, elsewhere, found, from_coordinator, from_shard, here, left, of_coordinator, of_shard, refused, shard, staged_of, up}
use Rattle.journal.specs.Records.{HasOldOrNew, LeavesBoth, LeavesEach}
use Rattle.decisions.specs.Coordinators.{KeepsOpen}
use Rattle.calls.specs.Views as views
use Rattle.calls.specs.declared.call.CoordinatorCall.TheVariants as coordinator_calls
use Rattle.calls.specs.declared.call.ShardCall.TheVariants as shard_calls
use Rattle.calls.specs.declared.reply.CoordinatorReply.TheVariants as told
use Rattle.calls.specs.declared.reply.ShardReply.TheVariants as told_by
use Rattle.turns.specs.CoordinatorOpeningLaws.{IsOverDevices}
use Rattle.stores.specs.FlushLaws.{FlushesCoordinator, HasOldOrSame, IsOldOrSame, all_kept}
use Rattle.turns.specs.SeamLaws.{at_coordinator}
use Rattle.turns.specs.ShardOpeningLaws.{IsOver, put_at}
use Rattle.turns.proofs.CoordinatorOpeningSeam.{fails_over_devices, flushes_over_devices}
use Rattle.turns.proofs.FailedFlushTurn.{failed_flushes_are_quiet}
use Rattle.turns.proofs.FlushTurn.{flushes_are_quiet}
use Rattle.stores.proofs.Places.{stand_for_itself}
use Rattle.turns.proofs.QuietTurns.{away_nodes_have_cause, is_same_node}
use Rattle.turns.proofs.ShardFailedSeam.{failed_shard_flushes_are_quiet}
use Rattle.turns.proofs.ShardOpeningSeam.{left_elsewhere, shard_flushes_are_quiet}
use Rattle.turns.proofs.ShardSeam.{put_elsewhere, put_here}
use Rattle.flow_turns.proofs.Made.{Comes, FailsQuietly, IsQuietlyMade, IsWithin, WasOrSame, after, before, fails_by, given_by, inside_by, named_less, shows_nodes, still_at, still_made, still_of, was_itself}
use Rattle.flow_turns.proofs.Standing.{coordinator_is_away, is_seen, runs_now, shard_is_away, shard_is_seen, shard_is_up}

module _ {D : Type 0} (state : D → State) (honest : D → Type 0) (moment : D → ℕ) (left_since : D → ℕ → List ℕ → Type 0)
    (counts_now : (d : D) (t : ℕ) (c : List ℕ) → honest d → t ≤ moment d → left (state d) c → left_since d t c) (only_now : (d : D) (c : List ℕ) → honest d → left_since d (moment d) c → left (state d) c)
    (store shards : ℕ) (old new : Store D) (now : Moment) (standing : StandsOver state honest store shards old now) where
  -- a flush by the same records is one by records that stand for the same
  same_records : (n : NodeName) (durable staged : List Record) (a b new_a new_b : D) → LeavesBoth moment left_since a b new_a new_b (HasOldOrNew durable staged)
      → LeavesEach moment left_since a b new_a new_b (HasOldOrSame n durable staged)
  same_records n durable staged a b new_a new_b m = record { later_a = m.later_a; later_b = m.later_b; each = λ x y in_x in_y. wider x y (m.each x y in_x in_y) }
    where
      wider : (x y : List ℕ) → HasOldOrNew durable staged x y → HasOldOrSame n durable staged x y
      wider x y (inl is) = (durable, is, inl refl)
      wider x y (inr is) = (durable ++ staged, is, inr (stand_for_itself n (durable ++ staged)))

  -- the devices of one node, after its flush or a call that replaces its records
  module _ (n : NodeName) (durable staged : List Record) (a b new_a new_b : D) (at : now.nodes.at n ≡ up durable staged) (was_devices : old.devices n ≡ (a, b)) (is_devices : new.devices n ≡ (new_a, new_b))
      (others : (k : NodeName) → k ≢ n → new.devices k ≡ old.devices k) (honest_a : honest new_a) (honest_b : honest new_b) (moments : LeavesEach moment left_since a b new_a new_b (HasOldOrSame n durable staged)) where
    durable_left : before state honest moment left_since store shards old new now standing n durable
    durable_left = (standing.stands.nodes.durable n durable staged durable at).1 refl

    was_or_same : (rs : List Record) → IsOldOrSame n durable staged rs → WasOrSame state honest moment left_since store shards old new now standing n rs
    was_or_same rs (inl plain) = was_itself state honest moment left_since store shards old new now standing n rs (durable, durable_left, inl plain)
    was_or_same rs (inr same) = (durable ++ staged, (durable, durable_left, inr (ap (λ (l : List Record). durable ++ l) (sym (ap staged_of at)))), same)

    found_one : (x y : List ℕ) → HasOldOrSame n durable staged x y → (rs : List Record) × (found x y ≡ Some rs) × WasOrSame state honest moment left_since store shards old new now standing n rs
    found_one x y one = (one.0, one.1, was_or_same one.0 one.2)

    flush_within : IsWithin state honest moment left_since store shards old new now standing
    flush_within k x y there in_x in_y = ⊎_elim
        (λ here.
        let new_is = ap new.devices here ∙ is_devices in
        let old_is = ap old.devices here ∙ was_devices in
        let in_x_then = subst (λ (p : D × D). left_since new_a (moment p.0) x) old_is (subst (λ (p : D × D). left_since p.0 (moment (old.devices k).0) x) new_is in_x) in
        let in_y_then = subst (λ (p : D × D). left_since new_b (moment p.1) y) old_is (subst (λ (p : D × D). left_since p.1 (moment (old.devices k).1) y) new_is in_y) in
        let one = found_one x y (moments.each x y in_x_then in_y_then) in
        (one.0, one.1, subst (λ (m : NodeName). WasOrSame state honest moment left_since store shards old new now standing m one.0) (sym here) one.2))
        (λ other. still_at state honest moment left_since store shards old new now standing only_now k (others k other) x y there in_x in_y)
        (is_same_node k n)

    flush_left : (rs : List Record) → after state honest moment left_since store shards old new now standing coordinator rs → WasOrSame state honest moment left_since store shards old new now standing coordinator rs
    flush_left rs (x, y, in_x, in_y, is) = ⊎_elim
        (λ here.
        let new_is = ap new.devices here ∙ is_devices in
        let in_x_then = counts_now new_a (moment a) x honest_a moments.later_a (subst (λ (p : D × D). left (state p.0) x) new_is in_x) in
        let in_y_then = counts_now new_b (moment b) y honest_b moments.later_b (subst (λ (p : D × D). left (state p.1) y) new_is in_y) in
        let one = found_one x y (moments.each x y in_x_then in_y_then) in
        subst (WasOrSame state honest moment left_since store shards old new now standing coordinator) (same_Some one.0 rs (sym one.1 ∙ is)) (subst (λ (m : NodeName). WasOrSame state honest moment left_since store shards old new now standing m one.0) (sym here) one.2))
        (λ other. was_itself state honest moment left_since store shards old new now standing coordinator rs (
          rs,
          (x, y, subst (λ (p : D × D). left (state p.0) x) (others coordinator other) in_x, subst (λ (p : D × D). left (state p.1) y) (others coordinator other) in_y, is),
          inl refl,
        ))
        (is_same_node coordinator n)

    flush_sound : AreSound state honest store shards new.devices
    flush_sound = record {
      honest_a = λ k there. ⊎_elim
          (λ here. subst (λ (p : D × D). honest p.0) (sym (ap new.devices here ∙ is_devices)) honest_a)
          (λ other. subst (λ (p : D × D). honest p.0) (sym (others k other)) (standing.sound.honest_a k there))
          (is_same_node k n);
      honest_b = λ k there. ⊎_elim
          (λ here. subst (λ (p : D × D). honest p.1) (sym (ap new.devices here ∙ is_devices)) honest_b)
          (λ other. subst (λ (p : D × D). honest p.1) (sym (others k other)) (standing.sound.honest_b k there))
          (is_same_node k n);
      readable = λ k x y there in_x in_y. ⊎_elim
          (λ here.
          let new_is = ap new.devices here ∙ is_devices in
          let in_x_then = counts_now new_a (moment a) x honest_a moments.later_a (subst (λ (p : D × D). left (state p.0) x) new_is in_x) in
          let in_y_then = counts_now new_b (moment b) y honest_b moments.later_b (subst (λ (p : D × D). left (state p.1) y) new_is in_y) in
          let one = found_one x y (moments.each x y in_x_then in_y_then) in
          (one.0, one.1))
          (λ other. standing.sound.readable k x y there (subst (λ (p : D × D). left (state p.0) x) (others k other) in_x) (subst (λ (p : D × D). left (state p.1) y) (others k other) in_y))
          (is_same_node k n);
    }

  not_a_shard : (s : ℕ) → coordinator ≢ shard s
  not_a_shard s is = cc

  abbrev FailsHere : NodeName → Refusal → Type 0
  FailsHere = FailsQuietly state honest moment left_since store shards old new now standing

  abbrev ComesHere : {X : Type 0} → NodeName → Result X Refusal → (X → Type 0) → Type 0
  ComesHere n r P = Comes state honest moment left_since store shards old new now standing n r P

  pub away_fails : (n : NodeName) (was is : NodeView D) (e : Refusal) → IsCalled state honest moment left_since store shards n was is old new → is ≡ was → IsAway now.nodes n e → FailsHere n e
  away_fails n was is e called same away = (
    now.nodes,
    still_of state honest moment left_since store shards old new now standing n (still_made state honest moment left_since store shards old new now standing n was is called only_now same),
    λ r ran is_then calls. away_nodes_have_cause store shards (before state honest moment left_since store shards old new now standing) (before state honest moment left_since store shards old new now standing) now ran r n e standing.stands is_then calls away,
  )

  no_down_is_unsure : Down ≢ Unsure
  no_down_is_unsure is = cc

  -- a flush of the coordinator that answered Ok is quiet, and keeps the whole log
  abbrev pub FlushesWell : Type 0
  FlushesWell = (next : Nodes) × (flush : FlushesCoordinator (before state honest moment left_since store shards old new now standing) (after state honest moment left_since store shards old new now standing) now.nodes next)
      × IsQuietlyMade state honest moment left_since store shards old new now standing next (all_kept now.machine (flush.durable ++ flush.staged))

  -- and one of a shard
  abbrev pub ShardFlushesWell : Type 0
  ShardFlushesWell = (next : Nodes) × IsQuietlyMade state honest moment left_since store shards old new now standing next now.machine

  -- the coordinator's
  module _ (v w : CoordinatorView D) (called : IsCalled state honest moment left_since store shards coordinator (views.coordinator v) (views.coordinator w) old new) (is_up : v.is_down ≡ false)
      (keeps : KeepsOpen v w) (moments : LeavesEach moment left_since v.a v.b w.a w.b (HasOldOrSame coordinator v.durable v.staged)) (honest_a : honest w.a) (honest_b : honest w.b) where
    over : IsOverDevices state honest moment left_since store shards old.devices w.a w.b new.devices
    over = record { first = ap (λ (p : D × D). p.0) called.after.devices; second = ap (λ (p : D × D). p.1) called.after.devices; others = called.devices }

    seen : IsSeen now.nodes v
    seen = is_seen state honest store shards old now standing v called.before is_up

    others_stay : (state_then : NodeState) (k : NodeName) → k ≢ coordinator → at_coordinator state_then now.nodes.at k ≡ now.nodes.at k
    others_stay state_then coordinator ne = absurd (ne refl)
    others_stay state_then (shard t) ne = refl

    left_then : (rs : List Record) → after state honest moment left_since store shards old new now standing coordinator rs → WasOrSame state honest moment left_since store shards old new now standing coordinator rs
    left_then = flush_left coordinator v.durable v.staged v.a v.b w.a w.b seen.at called.before.devices called.after.devices called.devices honest_a honest_b moments

    -- with nothing staged after it
    made : (next : Nodes) (m : Machine) → ShowsNodes next new → staged_of (next.at coordinator) ≡ [] → IsMade state honest moment left_since store shards old new now next m
    made next m shows none = record {
      sound = flush_sound coordinator v.durable v.staged v.a v.b w.a w.b seen.at called.before.devices called.after.devices called.devices honest_a honest_b moments;
      nodes = shows;
      named = named_less state honest moment left_since store shards old new now standing next (λ rs is.
          let same : rs ≡ is.0 = ⊎_elim (λ plain. plain) (λ more. more ∙ ap (λ (l : List Record). is.0 ++ l) none ∙ append-nil is.0) is.2 in
          subst (WasOrSame state honest moment left_since store shards old new now standing coordinator) (sym same) (left_then is.0 is.1));
      fails = fails_by state honest moment left_since store shards old new now standing coordinator (views.coordinator v) (views.coordinator w) called next shows;
      inside = inside_by state honest moment left_since store shards old new now standing
          (flush_within coordinator v.durable v.staged v.a v.b w.a w.b seen.at called.before.devices called.after.devices called.devices honest_a honest_b moments) m;
      given = given_by state honest moment left_since store shards old new now standing left_then;
    }

    -- what was durable and staged, or what stands for the same, is durable, and nothing is staged
    pub flushed_well : IsRunning state honest w → StandFor coordinator (v.durable ++ v.staged) w.durable → w.staged ≡ [] → FlushesWell
    flushed_well running same none =
        let law = flushes_over_devices state honest moment left_since counts_now store shards old.devices new.devices now v w seen running same none keeps over in
        let next = behind now.nodes w now.nodes.open_writes in
        let shows = shows_nodes state honest moment left_since store shards old new now standing coordinator (views.coordinator v) (views.coordinator w) called next
        (record { others = others_stay (up w.durable w.staged); open_writes = λ ne. absurd (ne refl); given = λ ne. absurd (ne refl) })
        (sym (ap (λ b. if b then down else up w.durable w.staged) running.up)) (law.0.open_writes ∙ sym called.after.memory.0) (law.0.given ∙ sym called.after.memory.1) in
        let m = all_kept now.machine (law.1.durable ++ law.1.staged) in
        (next, law.1, (flushes_are_quiet store shards _ _ now next standing.stands law.1, made next m shows none))

    pub flushed_ill : w.is_down ≡ true → FailsHere coordinator Down
    flushed_ill is_down =
        let fails = fails_over_devices state honest moment left_since counts_now store shards old.devices new.devices now v w seen over honest_a honest_b moments in
        let next = record now.nodes { at = at_coordinator down now.nodes.at } in
        let law = failed_flushes_are_quiet store shards _ _ now next standing.stands fails in
        let shows = shows_nodes state honest moment left_since store shards old new now standing coordinator (views.coordinator v) (views.coordinator w) called next
        (record { others = others_stay down; open_writes = λ ne. absurd (ne refl); given = λ ne. absurd (ne refl) })
        (sym (ap (λ b. if b then down else up w.durable w.staged) is_down))
        (seen.open_writes ∙ sym keeps.open_ids ∙ sym called.after.memory.0) (seen.given ∙ sym keeps.given ∙ sym called.after.memory.1) in
        (next, (law.0, made next now.machine shows refl), λ r ran is_then calls. (law.1 r ran is_then calls, no_down_is_unsure))

  -- a shard's
  module _ (s : ℕ) (v w : ShardView D) (called : IsCalled state honest moment left_since store shards (shard s) (views.shard v) (views.shard w) old new) (is_up : v.is_down ≡ false)
      (moments : LeavesEach moment left_since v.a v.b w.a w.b (HasOldOrSame (shard s) v.durable v.staged)) (honest_a : honest w.a) (honest_b : honest w.b) where
    shard_over : IsOver state honest moment left_since store shards old.devices s w.a w.b new.devices
    shard_over = record { first = ap (λ (p : D × D). p.0) called.after.devices; second = ap (λ (p : D × D). p.1) called.after.devices; others = called.devices }

    shard_seen : ShardIsSeen store shards s now.nodes v
    shard_seen = shard_is_seen state honest store shards old now standing s v called.before is_up

    shard_up : IsUp state honest v
    shard_up = shard_is_up state honest store shards old now standing s v called.before is_up

    shard_made : (next : Nodes) → ShowsNodes next new → next.at coordinator ≡ now.nodes.at coordinator → IsMade state honest moment left_since store shards old new now next now.machine
    shard_made next shows same = record {
      sound = flush_sound (shard s) v.durable v.staged v.a v.b w.a w.b shard_seen.at called.before.devices called.after.devices called.devices honest_a honest_b moments;
      nodes = shows;
      named = named_less state honest moment left_since store shards old new now standing next (λ rs is. was_itself state honest moment left_since store shards old new now standing coordinator rs (
        is.0,
        (left_elsewhere state honest moment left_since store shards old.devices new.devices s w.a w.b shard_over coordinator is.0 (not_a_shard s)).0 is.1,
        ⊎_elim (λ plain. inl plain) (λ more. inr (more ∙ ap (λ (n : NodeState). is.0 ++ staged_of n) same)) is.2,
      ));
      fails = fails_by state honest moment left_since store shards old new now standing (shard s) (views.shard v) (views.shard w) called next shows;
      inside = inside_by state honest moment left_since store shards old new now standing
          (flush_within (shard s) v.durable v.staged v.a v.b w.a w.b shard_seen.at called.before.devices called.after.devices called.devices honest_a honest_b moments) now.machine;
      given = given_by state honest moment left_since store shards old new now standing
          (flush_left (shard s) v.durable v.staged v.a v.b w.a w.b shard_seen.at called.before.devices called.after.devices called.devices honest_a honest_b moments);
    }

    pub shard_flushed_well : w.me ≡ v.me → IsUp state honest w → StandFor (shard s) (v.durable ++ v.staged) w.durable → w.staged ≡ [] → ShardFlushesWell
    shard_flushed_well me up_then same none =
        let next = behind_shard s now.nodes w in
        let law = shard_flushes_are_quiet state honest moment left_since store shards old.devices new.devices now s v w standing.stands shard_seen shard_up up_then same none me shard_over in
        let shows = shows_nodes state honest moment left_since store shards old new now standing (shard s) (views.shard v) (views.shard w) called next
        (record { others = elsewhere s now.nodes w; open_writes = λ ne. refl; given = λ ne. refl })
        (here s now.nodes w ∙ sym (ap (λ b. if b then down else up w.durable w.staged) up_then.up))
        (standing.nodes.open_ids ∙ sym called.memory.0) (standing.nodes.given ∙ sym called.memory.1) in
        (next, (law.1, shard_made next shows refl))

    pub shard_flushed_ill : w.is_down ≡ true → FailsHere (shard s) Down
    shard_flushed_ill is_down =
        let next = put_at s down now.nodes in
        let left_it = failed_shard_flushes_are_quiet state honest moment left_since counts_now store shards old.devices new.devices now s v w standing.stands shard_seen shard_up honest_a honest_b moments shard_over in
        let shows = shows_nodes state honest moment left_since store shards old new now standing (shard s) (views.shard v) (views.shard w) called next
        (record { others = put_elsewhere s down now.nodes.at; open_writes = λ ne. refl; given = λ ne. refl })
        (put_here s down now.nodes.at ∙ sym (ap (λ b. if b then down else up w.durable w.staged) is_down))
        (standing.nodes.open_ids ∙ sym called.memory.0) (standing.nodes.given ∙ sym called.memory.1) in
        let law : IsQuietCall store shards (before state honest moment left_since store shards old new now standing) (after state honest moment left_since store shards old new now standing) now next now.machine = record {
          stands = left_it.stands;
          moves = left_it.moves;
          machine = left_it.machine;
          quiet = left_it.quiet;
          node = shard s;
          others = record { others = put_elsewhere s down now.nodes.at; open_writes = λ ne. refl; given = λ ne. refl };
          called = inr (inr (inr (record { durable = v.durable; staged = v.staged; was = shard_seen.at; now = put_here s down now.nodes.at })));
          open_writes = left_it.open_writes;
        } in (
          next,
          (law, shard_made next shows refl),
          λ r ran is_then calls. (inl (calls, inl (ap (λ (nodes : Nodes). nodes.at (shard s)) is_then ∙ put_here s down now.nodes.at)), no_down_is_unsure),
        )

  -- a node whose opening was refused answers that, and nothing has changed
  pub refused_fails : (n : NodeName) (e f : Refusal) (a b : D) (is : NodeView D) → IsCalled state honest moment left_since store shards n (views.refused e a b) is old new → is ≡ views.refused e a b → f ≡ e → FailsHere n f
  refused_fails n e f a b is called same is_f = away_fails n (views.refused e a b) is f called same (inr (standing.nodes.at n ∙ called.before.at ∙ ap refused (sym is_f)))

  -- one that is down answers Down
  pub down_coordinator_fails : (v w : CoordinatorView D) (e : Refusal) → IsCalled state honest moment left_since store shards coordinator (views.coordinator v) (views.coordinator w) old new → w ≡ v → v.is_down ≡ true → e ≡ Down
      → FailsHere coordinator e
  down_coordinator_fails v w e called same gone is_down = away_fails coordinator (views.coordinator v) (views.coordinator w) e called (ap views.coordinator same)
      (subst (IsAway now.nodes coordinator) (sym is_down) (coordinator_is_away state honest store shards old now standing v called.before gone))

  pub down_shard_fails : (s : ℕ) (v w : ShardView D) (e : Refusal) → IsCalled state honest moment left_since store shards (shard s) (views.shard v) (views.shard w) old new → w ≡ v → v.is_down ≡ true → e ≡ Down
      → FailsHere (shard s) e
  down_shard_fails s v w e called same gone is_down = away_fails (shard s) (views.shard v) (views.shard w) e called (ap views.shard same)
      (subst (IsAway now.nodes (shard s)) (sym is_down) (shard_is_away state honest store shards old now standing s v called.before gone))

  -- whatever the coordinator was before
  pub coordinator_flushed : (was is : NodeView D) (r : Result (Unit {0}) Refusal) → IsCalled state honest moment left_since store shards coordinator was is old new
      → Answered state honest moment left_since was (of_coordinator coordinator_calls.Flush) (from_coordinator (told.Flush r)) is → ComesHere coordinator r (λ done. FlushesWell)
  coordinator_flushed (views.coordinator v) (views.coordinator w) (Ok done) called so = ⊎_elim
      (λ gone. absurd (true≢false (sym (so.down gone).0)))
      (λ is_up.
      let runs = runs_now state honest store shards old now standing v called.before is_up in
      let all = so.ok runs in
      flushed_well v w called is_up so.keeps (same_records coordinator v.durable v.staged v.a v.b w.a w.b (so.any_moment runs)) (so.still_honest.0.0 runs.honest_a) (so.still_honest.1.0 runs.honest_b) all.0
      (subst (StandFor coordinator (v.durable ++ v.staged)) (sym all.1.durable) (stand_for_itself coordinator (v.durable ++ v.staged))) all.1.staged)
      (cases_Bool v.is_down)
  coordinator_flushed (views.coordinator v) (views.coordinator w) (Err e) called so = ⊎_elim
      (λ gone. down_coordinator_fails v w e called (so.down gone).1 gone so.err.0)
      (λ is_up.
      let runs = runs_now state honest store shards old now standing v called.before is_up in
      subst (FailsHere coordinator) (sym so.err.0) (flushed_ill v w called is_up so.keeps (same_records coordinator v.durable v.staged v.a v.b w.a w.b (so.any_moment runs)) (so.still_honest.0.0 runs.honest_a) (so.still_honest.1.0 runs.honest_b) so.err.1))
      (cases_Bool v.is_down)
  coordinator_flushed (views.coordinator v) (views.shard w) r called so = absurd so
  coordinator_flushed (views.coordinator v) (views.refused e a b) r called so = absurd so
  coordinator_flushed (views.shard v) is r called so = absurd called.before.named
  coordinator_flushed (views.refused e a b) is (Ok done) called so = absurd (let bad : Ok done ≡ Err e = so.1 in cc)
  coordinator_flushed (views.refused e a b) is (Err f) called so = refused_fails coordinator e f a b is called so.0 (let both : Err f ≡ Err e = so.1 in cc)

  -- whatever the shard was before
  pub shard_flushed : (s : ℕ) (was is : NodeView D) (r : Result (Unit {0}) Refusal) → IsCalled state honest moment left_since store shards (shard s) was is old new
      → Answered state honest moment left_since was (of_shard s shard_calls.Flush) (from_shard (told_by.Flush r)) is → ComesHere (shard s) r (λ done. ShardFlushesWell)
  shard_flushed s (views.shard v) (views.shard w) (Ok done) called so = ⊎_elim
      (λ gone. absurd (true≢false (sym (so.down gone))))
      (λ is_up.
      let stands = shard_is_up state honest store shards old now standing s v called.before is_up in
      let all = so.ok stands in
      shard_flushed_well s v w called is_up (same_records (shard s) v.durable v.staged v.a v.b w.a w.b (so.any_moment stands)) (so.still_honest.0.0 stands.honest_a) (so.still_honest.1.0 stands.honest_b) so.me all.up
      (subst (StandFor (shard s) (v.durable ++ v.staged)) (sym all.durable) (stand_for_itself (shard s) (v.durable ++ v.staged))) all.staged)
      (cases_Bool v.is_down)
  shard_flushed s (views.shard v) (views.shard w) (Err e) called so = ⊎_elim
      (λ gone. down_shard_fails s v w e called (so.quiet (inl gone)) gone so.err.0)
      (λ is_up.
      let stands = shard_is_up state honest store shards old now standing s v called.before is_up in
      subst (FailsHere (shard s)) (sym so.err.0) (shard_flushed_ill s v w called is_up (same_records (shard s) v.durable v.staged v.a v.b w.a w.b (so.any_moment stands)) (so.still_honest.0.0 stands.honest_a) (so.still_honest.1.0 stands.honest_b) so.err.1))
      (cases_Bool v.is_down)
  shard_flushed s (views.shard v) (views.coordinator w) r called so = absurd so
  shard_flushed s (views.shard v) (views.refused e a b) r called so = absurd so
  shard_flushed s (views.coordinator v) is r called so = absurd called.before.named
  shard_flushed s (views.refused e a b) is (Ok done) called so = absurd (let bad : Ok done ≡ Err e = so.1 in cc)
  shard_flushed s (views.refused e a b) is (Err f) called so = refused_fails (shard s) e f a b is called so.0 (let both : Err f ≡ Err e = so.1 in cc)
