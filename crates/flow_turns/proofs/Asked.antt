-- What a node of a store that stands answers: by its own contract if it is up, or that it is away.
use Rattle.std.proofs.Common.{◌≡◌, ◌⊎◌, inl, inr, ⊎_elim, ◌≤◌, ◌<◌, ℕ, Bool, true, false, true≢false, List, Ok, Err, Result, refl, sym, ◌∙◌, ap, subst, if◌then◌else◌}
use Rattle.std.proofs.lemmas.Bool.{cases_Bool}
use Rattle.flow_turns.proofs.CallWords.{Answered, BatchValue, Collected, CoordinatorView, Down, Full, Future, HeadsValue, IsCalled, IsQuietCall, IsSeen, IsUp, Moment, NoMemory, NodeName, NodeView, Refusal, ShardIsSeen, ShardView, StandsOver, State, Stays, Store, behind_shard, coordinator, down, elsewhere, end_of, from_coordinator, from_shard, here, kept_of, left, memory, of_coordinator, of_shard, shard, stops, up}
use Rattle.refusal.specs.declared.refusal.Refusal.TheVariants.{Damaged}
use Rattle.decisions.specs.Coordinators.{BatchesAt, heads_of}
use Rattle.shard.specs.Calls.{LearnRefused, LearnsAt}
use Rattle.calls.specs.Views as views
use Rattle.calls.specs.declared.call.CoordinatorCall.TheVariants as coordinator_calls
use Rattle.calls.specs.declared.call.ShardCall.TheVariants as shard_calls
use Rattle.calls.specs.declared.reply.CoordinatorReply.TheVariants as told
use Rattle.calls.specs.declared.reply.ShardReply.TheVariants as told_by
use Rattle.flow_turns.proofs.Flushed.{down_coordinator_fails, down_shard_fails, refused_fails}
use Rattle.flow_turns.proofs.Made.{Comes, FailsQuietly, IsQuietlyMade, before, fails_by, inside_by, same_devices, shows_nodes, still_given, still_made, still_named, still_sound, still_within}
use Rattle.flow_turns.proofs.Standing.{is_seen, runs_now, shard_is_seen, shard_is_up}

module _ {D : Type 0} (state : D → State) (honest : D → Type 0) (moment : D → ℕ) (left_since : D → ℕ → List ℕ → Type 0)
    (counts_now : (d : D) (t : ℕ) (c : List ℕ) → honest d → t ≤ moment d → left (state d) c → left_since d t c) (only_now : (d : D) (c : List ℕ) → honest d → left_since d (moment d) c → left (state d) c)
    (store shards : ℕ) (old new : Store D) (now : Moment) (standing : StandsOver state honest store shards old now) where
  abbrev pub IsStill : Type 0
  IsStill = IsQuietlyMade state honest moment left_since store shards old new now standing now.nodes now.machine

  abbrev Fails : NodeName → Refusal → Type 0
  Fails = FailsQuietly state honest moment left_since store shards old new now standing

  -- the coordinator is up, and was left as it was
  abbrev pub FromCoordinator : (CoordinatorView D → Type 0) → Type 0
  FromCoordinator P = IsStill × ((v : CoordinatorView D) × IsSeen now.nodes v × P v)

  -- a shard is up, and was left as it was
  abbrev pub FromShard : ℕ → (ShardView D → Type 0) → Type 0
  FromShard s P = IsStill × ((v : ShardView D) × ShardIsSeen store shards s now.nodes v × IsUp state honest v × P v)

  module _ (v w : CoordinatorView D) (called : IsCalled state honest moment left_since store shards coordinator (views.coordinator v) (views.coordinator w) old new) (same : w ≡ v) where
    pub coordinator_tells : (P : CoordinatorView D → Type 0) → v.is_down ≡ false → P v → FromCoordinator P
    coordinator_tells P is_up p = (
      still_made state honest moment left_since store shards old new now standing coordinator (views.coordinator v) (views.coordinator w) called only_now (ap views.coordinator same),
      (v, is_seen state honest store shards old now standing v called.before is_up, p),
    )

    pub coordinator_gone : (e : Refusal) → v.is_down ≡ true → e ≡ Down → Fails coordinator e
    coordinator_gone e gone is = down_coordinator_fails state honest moment left_since counts_now only_now store shards old new now standing v w e called same gone is

  module _ (s : ℕ) (v w : ShardView D) (called : IsCalled state honest moment left_since store shards (shard s) (views.shard v) (views.shard w) old new) where
    pub shard_tells : (P : ShardView D → Type 0) → w ≡ v → v.is_down ≡ false → P v → FromShard s P
    shard_tells P same is_up p = (
      still_made state honest moment left_since store shards old new now standing (shard s) (views.shard v) (views.shard w) called only_now (ap views.shard same),
      (v, shard_is_seen state honest store shards old now standing s v called.before is_up, shard_is_up state honest store shards old now standing s v called.before is_up, p),
    )

    pub shard_gone : (e : Refusal) → w ≡ v → v.is_down ≡ true → e ≡ Down → Fails (shard s) e
    shard_gone e same gone is = down_shard_fails state honest moment left_since counts_now only_now store shards old new now standing s v w e called same gone is

    -- a shard that staged a record, or not, and is as quiet as the laws say
    pub staged_made : Stays v w → v.is_down ≡ false → IsQuietCall store shards (before state honest moment left_since store shards old new now standing) (before state honest moment left_since store shards old new now standing) now (behind_shard s now.nodes w) now.machine
        → IsQuietlyMade state honest moment left_since store shards old new now standing (behind_shard s now.nodes w) now.machine
    staged_made stays is_up quiet =
        let next = behind_shard s now.nodes w in
        let devices = same_devices state honest moment left_since store shards old new now standing (shard s) (views.shard v) (views.shard w) called (ap (λ (x : ShardView D). (x.a, x.b)) stays) in
        let w_up : w.is_down ≡ false = ap (λ (x : ShardView D). x.is_down) stays ∙ is_up in
        let shows = shows_nodes state honest moment left_since store shards old new now standing (shard s) (views.shard v) (views.shard w) called next
        (record { others = elsewhere s now.nodes w; open_writes = λ ne. refl; given = λ ne. refl })
        (here s now.nodes w ∙ sym (ap (λ b. if b then down else up w.durable w.staged) w_up))
        (standing.nodes.open_ids ∙ sym called.memory.0) (standing.nodes.given ∙ sym called.memory.1) in (
          subst (λ (f : NodeName → D × D). IsQuietCall store shards (before state honest moment left_since store shards old new now standing) (stops state honest store shards f) now next now.machine) (sym devices) quiet,
          record {
            sound = still_sound state honest moment left_since store shards old new now standing only_now devices;
            nodes = shows;
            named = still_named state honest moment left_since store shards old new now standing only_now devices next refl;
            fails = fails_by state honest moment left_since store shards old new now standing (shard s) (views.shard v) (views.shard w) called next shows;
            inside = inside_by state honest moment left_since store shards old new now standing (still_within state honest moment left_since store shards old new now standing only_now devices) now.machine;
            given = still_given state honest moment left_since store shards old new now standing devices;
          },
        )

  pub away : (n : NodeName) (e f : Refusal) (a b : D) (is : NodeView D) → IsCalled state honest moment left_since store shards n (views.refused e a b) is old new → is ≡ views.refused e a b → f ≡ e → Fails n f
  away n e f a b is called same is_f = refused_fails state honest moment left_since counts_now only_now store shards old new now standing n e f a b is called same is_f

  -- its heads
  pub heads_told : (was is : NodeView D) (r : Result HeadsValue Refusal) → IsCalled state honest moment left_since store shards coordinator was is old new
      → Answered state honest moment left_since was (of_coordinator coordinator_calls.Heads) (from_coordinator (told.Heads r)) is
      → Comes state honest moment left_since store shards old new now standing coordinator r (λ h. FromCoordinator (λ v. h ≡ heads_of v))
  heads_told (views.coordinator v) (views.coordinator w) (Ok h) called so = ⊎_elim
      (λ gone. absurd (true≢false (sym (so.1.down.1 gone))))
      (λ is_up. coordinator_tells v w called so.0 (λ x. h ≡ heads_of x) is_up (so.1.ok (runs_now state honest store shards old now standing v called.before is_up)))
      (cases_Bool v.is_down)
  heads_told (views.coordinator v) (views.coordinator w) (Err e) called so = coordinator_gone v w called so.0 e (so.1.down.0 refl) so.1.err
  heads_told (views.coordinator v) (views.shard w) r called so = absurd so
  heads_told (views.coordinator v) (views.refused e a b) r called so = absurd so
  heads_told (views.shard v) is r called so = absurd called.before.named
  heads_told (views.refused e a b) is (Ok h) called so = absurd (let bad : Ok h ≡ Err e = so.1 in cc)
  heads_told (views.refused e a b) is (Err f) called so = away coordinator e f a b is called so.0 (let both : Err f ≡ Err e = so.1 in cc)

  -- decisions after a place: each refusal of a coordinator that is up
  abbrev pub BatchRefused : ℕ → ℕ → Refusal → CoordinatorView D → Type 0
  BatchRefused from to e v = ((e ≡ Future) × (end_of (kept_of v) < to)) ⊎ (((e ≡ Collected) × (from < (kept_of v).horizon)) ⊎ (e ≡ NoMemory))

  abbrev pub BatchComes : ℕ → ℕ → Result BatchValue Refusal → Type 0
  BatchComes from to (Ok b) = FromCoordinator (λ v. BatchesAt v from to b)
  BatchComes from to (Err e) = Fails coordinator e ⊎ FromCoordinator (BatchRefused from to e)

  pub batch_told : (was is : NodeView D) (from to : ℕ) (r : Result BatchValue Refusal) → IsCalled state honest moment left_since store shards coordinator was is old new
      → Answered state honest moment left_since was (of_coordinator (coordinator_calls.Batch from to)) (from_coordinator (told.Batch r)) is → BatchComes from to r
  batch_told (views.coordinator v) (views.coordinator w) from to (Ok b) called so = ⊎_elim
      (λ gone. absurd (let bad : Ok b ≡ Err Down = so.1.down.1 gone in cc))
      (λ is_up. coordinator_tells v w called so.0 (λ x. BatchesAt x from to b) is_up (so.1.ok (runs_now state honest store shards old now standing v called.before is_up)))
      (cases_Bool v.is_down)
  batch_told (views.coordinator v) (views.coordinator w) from to (Err e) called so = ⊎_elim
      (λ gone. inl (coordinator_gone v w called so.0 e gone (let both : Err e ≡ Err Down = so.1.down.1 gone in cc)))
      (λ is_up.
      let runs = runs_now state honest store shards old now standing v called.before is_up in
      by_cause is_up (λ is. (so.1.future runs).0 (ap Err is)) (λ is. ((so.1.collected runs).0 (ap Err is)).1) so.1.err)
      (cases_Bool v.is_down)
    where
      by_cause : v.is_down ≡ false → (e ≡ Future → end_of (kept_of v) < to) → (e ≡ Collected → from < (kept_of v).horizon) → (e ≡ Down) ⊎ ((e ≡ Future) ⊎ ((e ≡ Collected) ⊎ (e ≡ NoMemory))) → Fails coordinator e ⊎ FromCoordinator (BatchRefused from to e)
      by_cause is_up future collected (inl is) = inl (coordinator_gone v w called so.0 e (so.1.down.0 (ap Err is)) is)
      by_cause is_up future collected (inr (inl is)) = inr (coordinator_tells v w called so.0 (BatchRefused from to e) is_up (inl (is, future is)))
      by_cause is_up future collected (inr (inr (inl is))) = inr (coordinator_tells v w called so.0 (BatchRefused from to e) is_up (inr (inl (is, collected is))))
      by_cause is_up future collected (inr (inr (inr is))) = inr (coordinator_tells v w called so.0 (BatchRefused from to e) is_up (inr (inr is)))
  batch_told (views.coordinator v) (views.shard w) from to r called so = absurd so
  batch_told (views.coordinator v) (views.refused e a b) from to r called so = absurd so
  batch_told (views.shard v) is from to r called so = absurd called.before.named
  batch_told (views.refused e a b) is from to (Ok x) called so = absurd (let bad : Ok x ≡ Err e = so.1 in cc)
  batch_told (views.refused e a b) is from to (Err f) called so = inl (away coordinator e f a b is called so.0 (let both : Err f ≡ Err e = so.1 in cc))

  -- how far a shard has learned
  pub learned_told : (s : ℕ) (was is : NodeView D) (r : Result ℕ Refusal) → IsCalled state honest moment left_since store shards (shard s) was is old new
      → Answered state honest moment left_since was (of_shard s shard_calls.Learned) (from_shard (told_by.Learned r)) is
      → Comes state honest moment left_since store shards old new now standing (shard s) r (λ n. FromShard s (λ v. n ≡ (memory v).learned))
  learned_told s (views.shard v) (views.shard w) (Ok n) called so = ⊎_elim
      (λ gone. absurd (true≢false (sym (so.1.down.1 gone))))
      (λ is_up. shard_tells s v w called (λ x. n ≡ (memory x).learned) so.0 is_up (so.1.ok (shard_is_up state honest store shards old now standing s v called.before is_up)))
      (cases_Bool v.is_down)
  learned_told s (views.shard v) (views.shard w) (Err e) called so = shard_gone s v w called e so.0 (so.1.down.0 refl) so.1.err
  learned_told s (views.shard v) (views.coordinator w) r called so = absurd so
  learned_told s (views.shard v) (views.refused e a b) r called so = absurd so
  learned_told s (views.coordinator v) is r called so = absurd called.before.named
  learned_told s (views.refused e a b) is (Ok n) called so = absurd (let bad : Ok n ≡ Err e = so.1 in cc)
  learned_told s (views.refused e a b) is (Err f) called so = away (shard s) e f a b is called so.0 (let both : Err f ≡ Err e = so.1 in cc)

  -- decisions that a shard is to learn
  abbrev pub LearnComes : ℕ → BatchValue → Result Bool Refusal → Type 0
  LearnComes s b (Ok all) = (v : ShardView D) × (w : ShardView D) × ShardIsSeen store shards s now.nodes v × LearnsAt state honest v b all w
      × (IsQuietCall store shards (before state honest moment left_since store shards old new now standing) (before state honest moment left_since store shards old new now standing) now (behind_shard s now.nodes w) now.machine
      → IsQuietlyMade state honest moment left_since store shards old new now standing (behind_shard s now.nodes w) now.machine)
  LearnComes s b (Err e) = Fails (shard s) e ⊎ FromShard s (λ v. LearnRefused v b e × ((e ≡ NoMemory) ⊎ ((e ≡ Full) ⊎ (e ≡ Damaged))))

  pub learn_told : (s : ℕ) (was is : NodeView D) (b back : BatchValue) (r : Result Bool Refusal) → IsCalled state honest moment left_since store shards (shard s) was is old new
      → Answered state honest moment left_since was (of_shard s (shard_calls.Learn b)) (from_shard (told_by.Learn back r)) is → (back ≡ b) × LearnComes s b r
  learn_told s (views.shard v) (views.shard w) b back (Ok all) called so = (
    so.0,
    ⊎_elim
        (λ gone. absurd (let bad : Ok all ≡ Err Down = so.1.down.1 gone in cc))
        (λ is_up. (
          v,
          w,
          shard_is_seen state honest store shards old now standing s v called.before is_up,
          so.1.ok (shard_is_up state honest store shards old now standing s v called.before is_up),
          λ quiet. staged_made s v w called so.1.stays is_up quiet,
        ))
        (cases_Bool v.is_down),
  )
  learn_told s (views.shard v) (views.shard w) b back (Err e) called so = (
    so.0,
    ⊎_elim
        (λ gone. inl (shard_gone s v w called e so.1.err.0 gone (let both : Err e ≡ Err Down = so.1.down.1 gone in cc)))
        (λ is_up. by_cause is_up (so.1.refused (shard_is_up state honest store shards old now standing s v called.before is_up)) so.1.err.1)
        (cases_Bool v.is_down),
  )
    where
      by_cause : v.is_down ≡ false → LearnRefused v b e → (e ≡ Down) ⊎ ((e ≡ NoMemory) ⊎ ((e ≡ Full) ⊎ (e ≡ Damaged))) → LearnComes s b (Err e)
      by_cause is_up refused (inl is) = inl (shard_gone s v w called e so.1.err.0 (so.1.down.0 (ap Err is)) is)
      by_cause is_up refused (inr of) = inr (shard_tells s v w called (λ x. LearnRefused x b e × ((e ≡ NoMemory) ⊎ ((e ≡ Full) ⊎ (e ≡ Damaged)))) so.1.err.0 is_up (refused, of))
  learn_told s (views.shard v) (views.coordinator w) b back r called so = absurd so
  learn_told s (views.shard v) (views.refused e x y) b back r called so = absurd so
  learn_told s (views.coordinator v) is b back r called so = absurd called.before.named
  learn_told s (views.refused e x y) is b back (Ok all) called so = absurd (let bad : Ok all ≡ Err e = so.1.1 in cc)
  learn_told s (views.refused e x y) is b back (Err f) called so = (so.1.0, inl (away (shard s) e f x y is called so.0 (let both : Err f ≡ Err e = so.1.1 in cc)))
