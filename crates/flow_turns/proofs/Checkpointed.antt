-- A checkpoint of a node of a store that stands is quiet, as a flush is, whether it answers Ok or fails.
use Rattle.std.proofs.Common.{◌≡◌, ◌≢◌, inl, inr, ⊎_elim, ◌≤◌, ◌<◌, ℕ, true, false, List, [], ◌++◌, Ok, Err, Result, refl, sym, ◌∙◌, ap, subst}
use Rattle.std.proofs.lemmas.Bool.{cases_Bool, cases_lt}
use Rattle.std.proofs.lemmas.List.{append-nil}
use Rattle.flow_turns.proofs.CallWords.{Answered, Calls, CoordinatorView, Down, Full, HasItsCause, Holds, IsCalled, IsRunning, IsSeen, IsUp, Moment, NoMemory, NodeName, NodeView, Nodes, Record, Refusal, Running, ShardView, StandFor, StandsOver, State, Store, Unsure, coordinator, coordinator_state, from_coordinator, from_shard, left, memory, of_coordinator, of_shard, shard, up}
use Rattle.records.specs.Checkpoints.{generation_of}
use Rattle.records.specs.Identity.{Identity}
use Rattle.records.specs.Coordinators.{IsCoordinatorImage}
use Rattle.records.specs.Replays.{greatest_number}
use Rattle.journal.specs.Records.{LeavesEach}
use Rattle.decisions.specs.Checkpoints as of_coordinators
use Rattle.decisions.specs.Coordinators.{memory_of}
use Rattle.shard.specs.Checkpoints as of_shards
use Rattle.calls.specs.CoordinatorAnswers as by_coordinator
use Rattle.calls.specs.ShardAnswers as by_shard
use Rattle.calls.specs.Views as views
use Rattle.calls.specs.declared.call.CoordinatorCall.TheVariants as coordinator_calls
use Rattle.calls.specs.declared.call.ShardCall.TheVariants as shard_calls
use Rattle.calls.specs.declared.reply.CoordinatorReply.TheVariants as told
use Rattle.calls.specs.declared.reply.ShardReply.TheVariants as told_by
use Rattle.laws.specs.Nodes.{IsThere}
use Rattle.stores.specs.Causes.{IsFull, TakesMemory}
use Rattle.stores.specs.Flows.{Asked, to_flush}
use Rattle.stores.specs.FlushLaws.{HasOldOrSame}
use Rattle.stores.proofs.DecisionNodes.{staged_epoch}
use Rattle.stores.proofs.Places.{stand_for_itself}
use Rattle.turns.proofs.ShardSeam.{same_epoch}
use Rattle.flow_turns.proofs.Flushed.{FlushesWell, ShardFlushesWell, down_coordinator_fails, down_shard_fails, flushed_ill, flushed_well, refused_fails, shard_flushed_ill, shard_flushed_well}
use Rattle.flow_turns.proofs.Made.{FailsQuietly, IsQuietlyMade, still_made, still_of}
use Rattle.flow_turns.proofs.Points.{coordinator_point_stands, shard_point_stands}
use Rattle.flow_turns.proofs.Standing.{is_seen, runs_now, shard_is_seen, shard_is_up}

-- a flow that is to flush a node calls it
calls_its_node : (shards : ℕ) (n : NodeName) (holds : Holds) → IsThere shards n → Calls shards (to_flush n) holds n
calls_its_node shards coordinator holds there = λ s same. absurd (let bad : to_flush coordinator ≡ to_flush (shard s) = same in cc)
calls_its_node shards (shard s) holds there = (there, refl)

pub to_flush_calls : (shards : ℕ) (n : NodeName) (r : Running) → IsThere shards n → r.asked ≡ to_flush n → Calls shards r.asked r.holds n
to_flush_calls shards n r there is = subst (λ (a : Asked). Calls shards a r.holds n) (sym is) (calls_its_node shards n r.holds there)

module _ {D : Type 0} (state : D → State) (honest : D → Type 0) (moment : D → ℕ) (left_since : D → ℕ → List ℕ → Type 0)
    (counts_now : (d : D) (t : ℕ) (c : List ℕ) → honest d → t ≤ moment d → left (state d) c → left_since d t c) (only_now : (d : D) (c : List ℕ) → honest d → left_since d (moment d) c → left (state d) c)
    (store shards : ℕ) (old new : Store D) (now : Moment) (standing : StandsOver state honest store shards old now) where
  -- A flush or a checkpoint that failed is quiet, and has its cause for a flow that is to flush the node.
  abbrev pub FailsToFlush : NodeName → Refusal → Type 0
  FailsToFlush n e = (next : Nodes) × (quiet : IsQuietlyMade state honest moment left_since store shards old new now standing next now.machine)
      × ((r : Running) (ran : Moment) → ran.nodes ≡ next → r.asked ≡ to_flush n → HasItsCause shards quiet.0.node now ran r e × (e ≢ Unsure))

  -- as one has that fails for whatever flow calls the node
  pub fails_to_flush : (n : NodeName) (e : Refusal) → IsThere shards n → FailsQuietly state honest moment left_since store shards old new now standing n e → FailsToFlush n e
  fails_to_flush n e there (next, quiet, cause) = (next, quiet, λ r ran is asked. cause r ran is (to_flush_calls shards n r there asked))

  -- what an answer comes to
  abbrev pub ComesToFlush : {X : Type 0} → NodeName → Result X Refusal → (X → Type 0) → Type 0
  ComesToFlush n (Ok x) P = P x
  ComesToFlush n (Err e) P = FailsToFlush n e

  -- if there is no memory nothing has changed
  lacks_memory : (n : NodeName) (was is : NodeView D) → IsCalled state honest moment left_since store shards n was is old new → is ≡ was → FailsToFlush n NoMemory
  lacks_memory n was is called same = (
    now.nodes,
    still_of state honest moment left_since store shards old new now standing n (still_made state honest moment left_since store shards old new now standing n was is called only_now same),
    λ r ran is_then asked. (inl (subst TakesMemory (sym asked) tt), λ is. cc),
  )

  -- nor after the last generation
  is_last : (n : NodeName) (was is : NodeView D) → IsCalled state honest moment left_since store shards n was is old new → is ≡ was → (durable staged : List Record) → now.nodes.at n ≡ up durable staged
      → greatest_number ≤ generation_of durable → FailsToFlush n Full
  is_last n was is called same durable staged at last = (
    now.nodes,
    still_of state honest moment left_since store shards old new now standing n (still_made state honest moment left_since store shards old new now standing n was is called only_now same),
    λ r ran is_then asked. (
      inl (subst (IsFull shards n now r) (sym asked) (inr (record { durable = durable; staged = staged; calls = to_flush_calls shards n r called.before.there asked; is_up = at; last = last }))),
      λ is. cc,
    ),
  )

  -- the coordinator's
  module _ (v w : CoordinatorView D) (r : Result (Unit {0}) Refusal) (called : IsCalled state honest moment left_since store shards coordinator (views.coordinator v) (views.coordinator w) old new) (is_up : v.is_down ≡ false)
      (so : by_coordinator.CheckpointAnswers state honest moment left_since v r w) where
    seen : IsSeen now.nodes v
    seen = is_seen state honest store shards old now standing v called.before is_up

    runs : IsRunning state honest v
    runs = runs_now state honest store shards old now standing v called.before is_up

    image : IsCoordinatorImage v.me (v.durable ++ v.staged)
    image = subst (λ (i : Identity). IsCoordinatorImage i (v.durable ++ v.staged)) (sym called.before.named) (standing.stands.heads.whole v.durable v.staged seen.at).image

    opened : 1 ≤ (memory_of v).epoch
    opened = subst (λ (n : ℕ). 1 ≤ n)
        (sym (staged_epoch v.durable v.staged (λ a b c d has. standing.stands.nodes.no_opening coordinator v.durable v.staged a b c d seen.at has)))
        (standing.stands.nodes.coordinator_opened (coordinator_state v.durable) (memory_of v) (record { durable = v.durable; staged = v.staged; is_up = seen.at; durable_state = refl; replayed = refl }))

    point_is : generation_of v.durable < greatest_number → StandFor coordinator (v.durable ++ v.staged) (of_coordinators.next_checkpoint v)
    point_is lt = coordinator_point_stands v image opened lt

    old_or_point : generation_of v.durable < greatest_number → (x y : List ℕ) → of_coordinators.HasOldNewOrPoint v x y → HasOldOrSame coordinator v.durable v.staged x y
    old_or_point lt x y (inl (inl is)) = (v.durable, is, inl refl)
    old_or_point lt x y (inl (inr is)) = (v.durable ++ v.staged, is, inr (stand_for_itself coordinator (v.durable ++ v.staged)))
    old_or_point lt x y (inr is) = (of_coordinators.next_checkpoint v, is, inr (point_is lt))

    still : w ≡ v → (x y : List ℕ) → left_since w.a (moment v.a) x → left_since w.b (moment v.b) y → HasOldOrSame coordinator v.durable v.staged x y
    still same x y in_x in_y = (
      v.durable,
      runs.rest x y
          (only_now v.a x runs.honest_a (subst (λ (z : CoordinatorView D). left_since z.a (moment v.a) x) same in_x))
          (only_now v.b y runs.honest_b (subst (λ (z : CoordinatorView D). left_since z.b (moment v.b) y) same in_y)),
      inl refl,
    )

    moments : LeavesEach moment left_since v.a v.b w.a w.b (HasOldOrSame coordinator v.durable v.staged)
    moments = record {
      later_a = (so.any_moment runs).later_a;
      later_b = (so.any_moment runs).later_b;
      each = λ x y in_x in_y. ⊎_elim
          (λ lt. old_or_point lt x y ((so.any_moment runs).each x y in_x in_y))
          (λ last. still (so.last runs last) x y in_x in_y)
          (cases_lt (generation_of v.durable) greatest_number);
    }

    -- after the last generation the same records are durable
    same_records : w ≡ v → w.staged ≡ [] → v.durable ++ v.staged ≡ w.durable
    same_records same none =
        let nothing : v.staged ≡ [] = sym (ap (λ (z : CoordinatorView D). z.staged) same) ∙ none in
        ap (λ (l : List Record). v.durable ++ l) nothing ∙ append-nil v.durable ∙ sym (ap (λ (z : CoordinatorView D). z.durable) same)

    well : IsRunning state honest w → w.durable ≡ of_coordinators.next_checkpoint v → w.staged ≡ [] → FlushesWell state honest moment left_since counts_now only_now store shards old new now standing
    well running durable none = flushed_well state honest moment left_since counts_now only_now store shards old new now standing v w called is_up so.keeps moments running.honest_a running.honest_b running
        (⊎_elim
        (λ lt. subst (StandFor coordinator (v.durable ++ v.staged)) (sym durable) (point_is lt))
        (λ last. subst (StandFor coordinator (v.durable ++ v.staged)) (same_records (so.last runs last) none) (stand_for_itself coordinator (v.durable ++ v.staged)))
        (cases_lt (generation_of v.durable) greatest_number)) none

    ill : w.is_down ≡ true → FailsToFlush coordinator Down
    ill is_down = fails_to_flush coordinator Down tt
        (flushed_ill state honest moment left_since counts_now only_now store shards old new now standing v w called is_up so.keeps moments (so.still_honest.0.0 runs.honest_a) (so.still_honest.1.0 runs.honest_b) is_down)

  -- whatever the coordinator was before
  pub coordinator_checkpointed : (was is : NodeView D) (r : Result (Unit {0}) Refusal) → IsCalled state honest moment left_since store shards coordinator was is old new
      → Answered state honest moment left_since was (of_coordinator coordinator_calls.Checkpoint) (from_coordinator (told.Checkpoint r)) is
      → ComesToFlush coordinator r (λ done. FlushesWell state honest moment left_since counts_now only_now store shards old new now standing)
  coordinator_checkpointed (views.coordinator v) (views.coordinator w) (Ok done) called so = ⊎_elim
      (λ gone. absurd (let bad : Ok done ≡ Err Down = (so.down gone).0 in cc))
      (λ is_up. let all = so.ok (runs_now state honest store shards old now standing v called.before is_up) in well v w (Ok done) called is_up so all.0 all.1 all.2)
      (cases_Bool v.is_down)
  coordinator_checkpointed (views.coordinator v) (views.coordinator w) (Err e) called so = ⊎_elim
      (λ gone. fails_to_flush coordinator e tt
      (down_coordinator_fails state honest moment left_since counts_now only_now store shards old new now standing v w e called (so.down gone).1 gone (let both : Err e ≡ Err Down = (so.down gone).0 in cc)))
      (λ is_up. elim so.err [
        | inl failed ↦ subst (FailsToFlush coordinator) (sym failed.0) (ill v w (Err e) called is_up so failed.1)
        | inr same ↦ elim same.1 [
          | inl lacks ↦ subst (FailsToFlush coordinator) (sym lacks) (lacks_memory coordinator (views.coordinator v) (views.coordinator w) called (ap views.coordinator same.0))
          | inr full ↦ subst (FailsToFlush coordinator) (sym full) (is_last coordinator (views.coordinator v) (views.coordinator w) called (ap views.coordinator same.0) v.durable v.staged
              (is_seen state honest store shards old now standing v called.before is_up).at (so.full (runs_now state honest store shards old now standing v called.before is_up) (ap (λ (x : Refusal). Err x) full)))
        ]
      ])
      (cases_Bool v.is_down)
  coordinator_checkpointed (views.coordinator v) (views.shard w) r called so = absurd so
  coordinator_checkpointed (views.coordinator v) (views.refused e a b) r called so = absurd so
  coordinator_checkpointed (views.shard v) is r called so = absurd called.before.named
  coordinator_checkpointed (views.refused e a b) is (Ok done) called so = absurd (let bad : Ok done ≡ Err e = so.1 in cc)
  coordinator_checkpointed (views.refused e a b) is (Err f) called so =
      fails_to_flush coordinator f tt (refused_fails state honest moment left_since counts_now only_now store shards old new now standing coordinator e f a b is called so.0 (let both : Err f ≡ Err e = so.1 in cc))

  -- a shard's
  module _ (s : ℕ) (v w : ShardView D) (r : Result (Unit {0}) Refusal) (called : IsCalled state honest moment left_since store shards (shard s) (views.shard v) (views.shard w) old new) (is_up : v.is_down ≡ false)
      (so : by_shard.CheckpointAnswers state honest moment left_since v r w) where
    shard_at : now.nodes.at (shard s) ≡ up v.durable v.staged
    shard_at = (shard_is_seen state honest store shards old now standing s v called.before is_up).at

    shard_up : IsUp state honest v
    shard_up = shard_is_up state honest store shards old now standing s v called.before is_up

    shard_opened : 1 ≤ (memory v).epoch
    shard_opened = subst (λ (n : ℕ). 1 ≤ n)
        (sym (same_epoch v.durable v.staged (λ a b c d has. standing.stands.nodes.no_opening (shard s) v.durable v.staged a b c d shard_at has)))
        (standing.stands.nodes.shard_opened s v.durable v.staged shard_at)

    shard_point_is : generation_of v.durable < greatest_number → (cs : List Record) → of_shards.IsNextCheckpoint v cs → StandFor (shard s) (v.durable ++ v.staged) cs
    shard_point_is lt cs point = shard_point_stands s v cs shard_up.image shard_opened lt point

    shard_old_or_point : generation_of v.durable < greatest_number → (x y : List ℕ) → of_shards.HasOldNewOrPoint v x y → HasOldOrSame (shard s) v.durable v.staged x y
    shard_old_or_point lt x y (inl (inl is)) = (v.durable, is, inl refl)
    shard_old_or_point lt x y (inl (inr is)) = (v.durable ++ v.staged, is, inr (stand_for_itself (shard s) (v.durable ++ v.staged)))
    shard_old_or_point lt x y (inr (cs, is, point)) = (cs, is, inr (shard_point_is lt cs point))

    shard_still : w ≡ v → (x y : List ℕ) → left_since w.a (moment v.a) x → left_since w.b (moment v.b) y → HasOldOrSame (shard s) v.durable v.staged x y
    shard_still same x y in_x in_y = (
      v.durable,
      shard_up.rest x y
          (only_now v.a x shard_up.honest_a (subst (λ (z : ShardView D). left_since z.a (moment v.a) x) same in_x))
          (only_now v.b y shard_up.honest_b (subst (λ (z : ShardView D). left_since z.b (moment v.b) y) same in_y)),
      inl refl,
    )

    shard_moments : LeavesEach moment left_since v.a v.b w.a w.b (HasOldOrSame (shard s) v.durable v.staged)
    shard_moments = record {
      later_a = (so.any_moment shard_up).later_a;
      later_b = (so.any_moment shard_up).later_b;
      each = λ x y in_x in_y. ⊎_elim
          (λ lt. shard_old_or_point lt x y ((so.any_moment shard_up).each x y in_x in_y))
          (λ last. shard_still (so.last shard_up last) x y in_x in_y)
          (cases_lt (generation_of v.durable) greatest_number);
    }

    shard_same_records : w ≡ v → w.staged ≡ [] → v.durable ++ v.staged ≡ w.durable
    shard_same_records same none =
        let nothing : v.staged ≡ [] = sym (ap (λ (z : ShardView D). z.staged) same) ∙ none in
        ap (λ (l : List Record). v.durable ++ l) nothing ∙ append-nil v.durable ∙ sym (ap (λ (z : ShardView D). z.durable) same)

    shard_well : of_shards.ChecksPointAt state honest v w → ShardFlushesWell state honest moment left_since counts_now only_now store shards old new now standing
    shard_well all = shard_flushed_well state honest moment left_since counts_now only_now store shards old new now standing s v w called is_up shard_moments all.up.honest_a all.up.honest_b so.me all.up
        (⊎_elim
        (λ lt. shard_point_is lt w.durable all.durable)
        (λ last. subst (StandFor (shard s) (v.durable ++ v.staged)) (shard_same_records (so.last shard_up last) all.staged) (stand_for_itself (shard s) (v.durable ++ v.staged)))
        (cases_lt (generation_of v.durable) greatest_number)) all.staged

    shard_ill : w.is_down ≡ true → FailsToFlush (shard s) Down
    shard_ill is_down = fails_to_flush (shard s) Down called.before.there
        (shard_flushed_ill state honest moment left_since counts_now only_now store shards old new now standing s v w called is_up shard_moments (so.still_honest.0.0 shard_up.honest_a) (so.still_honest.1.0 shard_up.honest_b) is_down)

  -- whatever the shard was before
  pub shard_checkpointed : (s : ℕ) (was is : NodeView D) (r : Result (Unit {0}) Refusal) → IsCalled state honest moment left_since store shards (shard s) was is old new
      → Answered state honest moment left_since was (of_shard s shard_calls.Checkpoint) (from_shard (told_by.Checkpoint r)) is
      → ComesToFlush (shard s) r (λ done. ShardFlushesWell state honest moment left_since counts_now only_now store shards old new now standing)
  shard_checkpointed s (views.shard v) (views.shard w) (Ok done) called so = ⊎_elim
      (λ gone. absurd (let bad : Ok done ≡ Err Down = (so.down gone).0 in cc))
      (λ is_up. shard_well s v w (Ok done) called is_up so (so.ok (shard_is_up state honest store shards old now standing s v called.before is_up)))
      (cases_Bool v.is_down)
  shard_checkpointed s (views.shard v) (views.shard w) (Err e) called so = ⊎_elim
      (λ gone. fails_to_flush (shard s) e called.before.there
      (down_shard_fails state honest moment left_since counts_now only_now store shards old new now standing s v w e called (so.down gone).1 gone (let both : Err e ≡ Err Down = (so.down gone).0 in cc)))
      (λ is_up. elim so.err [
        | inl failed ↦ subst (FailsToFlush (shard s)) (sym failed.0) (shard_ill s v w (Err e) called is_up so failed.1)
        | inr same ↦ elim same.1 [
          | inl lacks ↦ subst (FailsToFlush (shard s)) (sym lacks) (lacks_memory (shard s) (views.shard v) (views.shard w) called (ap views.shard same.0))
          | inr full ↦ subst (FailsToFlush (shard s)) (sym full) (is_last (shard s) (views.shard v) (views.shard w) called (ap views.shard same.0) v.durable v.staged
              (shard_is_seen state honest store shards old now standing s v called.before is_up).at (so.full (shard_is_up state honest store shards old now standing s v called.before is_up) (ap (λ (x : Refusal). Err x) full)))
        ]
      ])
      (cases_Bool v.is_down)
  shard_checkpointed s (views.shard v) (views.coordinator w) r called so = absurd so
  shard_checkpointed s (views.shard v) (views.refused e a b) r called so = absurd so
  shard_checkpointed s (views.coordinator v) is r called so = absurd called.before.named
  shard_checkpointed s (views.refused e a b) is (Ok done) called so = absurd (let bad : Ok done ≡ Err e = so.1 in cc)
  shard_checkpointed s (views.refused e a b) is (Err f) called so =
      fails_to_flush (shard s) f called.before.there (refused_fails state honest moment left_since counts_now only_now store shards old new now standing (shard s) e f a b is called so.0 (let both : Err f ≡ Err e = so.1 in cc))
