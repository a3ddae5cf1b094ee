-- What a shard has settled, and what the coordinator makes of a raise.
use Rattle.std.proofs.Common.{◌≡◌, ◌≢◌, ◌⊎◌, inl, inr, ⊎_elim, ◌≤◌, ◌<◌, ℕ, false, true≢false, List, [], ◌∷◌, ◌++◌, Ok, Err, Result, Contains, refl, sym, ◌∙◌, ap, subst, append_assoc, if◌then◌else◌}
use Rattle.std.proofs.lemmas.Bool.{cases_Bool}
use Rattle.flow_turns.proofs.CallWords.{Answered, Collected, CoordinatorState, CoordinatorView, Down, Full, Future, HasNoRoom, Horizon, IsCalled, IsHorizonIn, IsMade, IsSeen, Moment, NamesHorizon, NodeName, NodeState, NodeView, Nodes, NotRaised, Record, Refusal, SettledValue, StandsOver, State, Store, behind, coordinator, coordinator_state, down, end_of, from_coordinator, from_shard, kept_of, left, of_coordinator, of_shard, shard, staged_of, stops, up}
use Rattle.records.specs.Coordinators.{coordinator_step}
use Rattle.decisions.specs.Coordinators.{RaisesAt}
use Rattle.shard.specs.Calls.{SettlesAt}
use Rattle.calls.specs.Views as views
use Rattle.calls.specs.declared.call.CoordinatorCall.TheVariants as coordinator_calls
use Rattle.calls.specs.declared.call.ShardCall.TheVariants as shard_calls
use Rattle.calls.specs.declared.reply.CoordinatorReply.TheVariants as told
use Rattle.calls.specs.declared.reply.ShardReply.TheVariants as told_by
use Rattle.std.specs.Global.{Vec}
use Rattle.laws.proofs.CoordinatorStates.{coordinator_push}
use Rattle.flow_turns.proofs.Asked.{FromCoordinator, FromShard, away, coordinator_gone, coordinator_tells, shard_gone, shard_tells}
use Rattle.flow_turns.proofs.Made.{Comes, FailsQuietly, after, before, fails_by, inside_by, same_devices, shows_nodes, still_given, still_sound, still_within}
use Rattle.flow_turns.proofs.Standing.{is_seen, runs_now, shard_is_up}

module _ {D : Type 0} (state : D → State) (honest : D → Type 0) (moment : D → ℕ) (left_since : D → ℕ → List ℕ → Type 0)
    (counts_now : (d : D) (t : ℕ) (c : List ℕ) → honest d → t ≤ moment d → left (state d) c → left_since d t c) (only_now : (d : D) (c : List ℕ) → honest d → left_since d (moment d) c → left (state d) c)
    (store shards : ℕ) (old new : Store D) (now : Moment) (standing : StandsOver state honest store shards old now) where
  -- what a shard has settled
  pub settle_told : (s : ℕ) (was is : NodeView D) (r : Result SettledValue Refusal) → IsCalled state honest moment left_since store shards (shard s) was is old new
      → Answered state honest moment left_since was (of_shard s shard_calls.Settle) (from_shard (told_by.Settle r)) is
      → Comes state honest moment left_since store shards old new now standing (shard s) r (λ x. FromShard state honest moment left_since counts_now only_now store shards old new now standing s (λ v. SettlesAt state v x))
  settle_told s (views.shard v) (views.shard w) (Ok x) called so = ⊎_elim
      (λ gone. absurd (true≢false (sym (so.1.down.1 gone))))
      (λ is_up. shard_tells state honest moment left_since counts_now only_now store shards old new now standing s v w called (λ y. SettlesAt state y x) so.0 is_up (so.1.ok (shard_is_up state honest store shards old now standing s v called.before is_up)))
      (cases_Bool v.is_down)
  settle_told s (views.shard v) (views.shard w) (Err e) called so = shard_gone state honest moment left_since counts_now only_now store shards old new now standing s v w called e so.0 (so.1.down.0 refl) so.1.err
  settle_told s (views.shard v) (views.coordinator w) r called so = absurd so
  settle_told s (views.shard v) (views.refused e a b) r called so = absurd so
  settle_told s (views.coordinator v) is r called so = absurd called.before.named
  settle_told s (views.refused e a b) is (Ok x) called so = absurd (let bad : Ok x ≡ Err e = so.1 in cc)
  settle_told s (views.refused e a b) is (Err f) called so = away state honest moment left_since counts_now only_now store shards old new now standing (shard s) e f a b is called so.0 (let both : Err f ≡ Err e = so.1 in cc)

  -- a raise that a coordinator takes
  module _ (v w : CoordinatorView D) (called : IsCalled state honest moment left_since store shards coordinator (views.coordinator v) (views.coordinator w) old new) (is_up : v.is_down ≡ false) (place : ℕ)
      (raises : RaisesAt v place w) (w_up : w.is_down ≡ false) where
    abbrev next : Nodes
    next = behind now.nodes w now.nodes.open_writes

    seen : IsSeen now.nodes v
    seen = is_seen state honest store shards old now standing v called.before is_up

    pub raised_devices : new.devices ≡ old.devices
    raised_devices = same_devices state honest moment left_since store shards old new now standing coordinator (views.coordinator v) (views.coordinator w) called
        (⊎_elim (λ one. ap (λ (x : CoordinatorView D). (x.a, x.b)) one.1) (λ none. ap (λ (x : CoordinatorView D). (x.a, x.b)) none.1) raises.new_is)

    -- with the record of it the coordinator's horizon is the place
    horizon_then : (coordinator_state (v.durable ++ (v.staged ++ Horizon place ∷ []))).horizon ≡ place
    unfolding coordinator_step
    horizon_then = ap (λ (l : List Record). (coordinator_state l).horizon) (sym (append_assoc v.durable v.staged (Horizon place ∷ [])))
        ∙ ap (λ (c : CoordinatorState). c.horizon) (coordinator_push (v.durable ++ v.staged) (Horizon place))

    raised_named : Contains now.named place → (x : ℕ) → IsHorizonIn store shards (after state honest moment left_since store shards old new now standing) next x → Contains now.named x ⊎ NamesHorizon state honest store shards old now x
    raised_named named x (some, (rs, (was, left_then, same), high)) =
        let left_was : before state honest moment left_since store shards old new now standing coordinator was = subst (λ (f : NodeName → D × D). stops state honest store shards f coordinator was) raised_devices left_then in
        let durable : was ≡ v.durable = (standing.stands.nodes.durable coordinator v.durable v.staged was seen.at).0 left_was in
        ⊎_elim
        (λ plain. inr (some, (rs, (was, left_was, inl plain), high)))
        (λ more. ⊎_elim
        (λ one.
        let whole : rs ≡ v.durable ++ (v.staged ++ Horizon place ∷ []) = more ∙ ap (λ (l : List Record). l ++ w.staged) durable ∙ ap (λ (y : CoordinatorView D). v.durable ++ y.staged) one.1 in
        inl (subst (Contains now.named) (sym horizon_then ∙ ap (λ (l : List Record). (coordinator_state l).horizon) (sym whole) ∙ high) named))
        (λ none. inr (some, (rs, (was, left_was, inr (more ∙ ap (λ (y : CoordinatorView D). was ++ y.staged) none.1 ∙ ap (λ (n : NodeState). was ++ staged_of n) (sym seen.at))), high)))
        raises.new_is)
        same

    pub raised_made : IsSeen next w → Contains now.named place → IsMade state honest moment left_since store shards old new now next now.machine
    raised_made seen_after named =
        let shows = shows_nodes state honest moment left_since store shards old new now standing coordinator (views.coordinator v) (views.coordinator w) called next
        (record { others = others_stay; open_writes = λ ne. absurd (ne refl); given = λ ne. absurd (ne refl) })
        (sym (ap (λ b. if b then down else up w.durable w.staged) w_up)) (seen_after.open_writes ∙ sym called.after.memory.0) (seen_after.given ∙ sym called.after.memory.1) in
        record {
          sound = still_sound state honest moment left_since store shards old new now standing only_now raised_devices;
          nodes = shows;
          named = raised_named named;
          fails = fails_by state honest moment left_since store shards old new now standing coordinator (views.coordinator v) (views.coordinator w) called next shows;
          inside = inside_by state honest moment left_since store shards old new now standing (still_within state honest moment left_since store shards old new now standing only_now raised_devices) now.machine;
          given = still_given state honest moment left_since store shards old new now standing raised_devices;
        }
      where
        others_stay : (k : NodeName) → k ≢ coordinator → next.at k ≡ now.nodes.at k
        others_stay coordinator ne = absurd (ne refl)
        others_stay (shard t) ne = refl

  -- each refusal of a coordinator that is up
  abbrev pub RaiseRefused : ℕ → Refusal → CoordinatorView D → Type 0
  RaiseRefused place e v = ((e ≡ Collected) × (place < (kept_of v).horizon)) ⊎ (((e ≡ Future) × (end_of (kept_of v) < place)) ⊎ ((e ≡ Full) × HasNoRoom v.staged (Horizon place)))

  -- the coordinator took it: it is up after it
  pub record TakesRaise (place : ℕ) : Type 0 where
    pub was : CoordinatorView D
    pub is : CoordinatorView D
    pub called : IsCalled state honest moment left_since store shards coordinator (views.coordinator was) (views.coordinator is) old new
    pub was_up : was.is_down ≡ false
    pub raises : RaisesAt was place is
    pub still_up : is.is_down ≡ false
    pub seen : IsSeen now.nodes was

  abbrev pub RaiseComes : ℕ → List SettledValue → Result (Unit {0}) NotRaised → Type 0
  RaiseComes place settled (Ok done) = TakesRaise place
  RaiseComes place settled (Err back) = (back.settled.items ≡ settled)
      × (FailsQuietly state honest moment left_since store shards old new now standing coordinator back.refusal ⊎ FromCoordinator state honest moment left_since counts_now only_now store shards old new now standing (RaiseRefused place back.refusal))

  pub raise_told : (was is : NodeView D) (place : ℕ) (settled : Vec SettledValue) (r : Result (Unit {0}) NotRaised) → IsCalled state honest moment left_since store shards coordinator was is old new
      → Answered state honest moment left_since was (of_coordinator (coordinator_calls.Raise place settled)) (from_coordinator (told.Raise r)) is → RaiseComes place settled.items r
  raise_told (views.coordinator v) (views.coordinator w) place settled (Ok done) called so = ⊎_elim
      (λ gone. absurd (true≢false (sym (so.was_up gone))))
      (λ is_up.
      let ok = so.ok (runs_now state honest store shards old now standing v called.before is_up) in
      record { was = v; is = w; called = called; was_up = is_up; raises = ok.0; still_up = ok.2.up; seen = is_seen state honest store shards old now standing v called.before is_up })
      (cases_Bool v.is_down)
  raise_told (views.coordinator v) (views.coordinator w) place settled (Err back) called so = (
    so.err.1,
    ⊎_elim
        (λ gone. inl (coordinator_gone state honest moment left_since counts_now only_now store shards old new now standing v w called so.err.0 back.refusal gone (so.down.1 gone)))
        (λ is_up.
        let runs = runs_now state honest store shards old now standing v called.before is_up in
        by_cause is_up (λ is. (so.collected runs).0 is) (λ is. (so.future runs).0 is) (λ is. (so.full runs is).0) so.err.2)
        (cases_Bool v.is_down),
  )
    where
      tells : v.is_down ≡ false → RaiseRefused place back.refusal v → FromCoordinator state honest moment left_since counts_now only_now store shards old new now standing (RaiseRefused place back.refusal)
      tells is_up p = coordinator_tells state honest moment left_since counts_now only_now store shards old new now standing v w called so.err.0 (RaiseRefused place back.refusal) is_up p

      by_cause : v.is_down ≡ false → (back.refusal ≡ Collected → place < (kept_of v).horizon) → (back.refusal ≡ Future → end_of (kept_of v) < place) → (back.refusal ≡ Full → HasNoRoom v.staged (Horizon place))
          → (back.refusal ≡ Down) ⊎ ((back.refusal ≡ Collected) ⊎ ((back.refusal ≡ Future) ⊎ (back.refusal ≡ Full)))
          → FailsQuietly state honest moment left_since store shards old new now standing coordinator back.refusal ⊎ FromCoordinator state honest moment left_since counts_now only_now store shards old new now standing (RaiseRefused place back.refusal)
      by_cause is_up collected future full (inl is) = inl (coordinator_gone state honest moment left_since counts_now only_now store shards old new now standing v w called so.err.0 back.refusal (so.down.0 is) is)
      by_cause is_up collected future full (inr (inl is)) = inr (tells is_up (inl (is, collected is)))
      by_cause is_up collected future full (inr (inr (inl is))) = inr (tells is_up (inr (inl (is, future is))))
      by_cause is_up collected future full (inr (inr (inr is))) = inr (tells is_up (inr (inr (is, full is))))
  raise_told (views.coordinator v) (views.shard w) place settled r called so = absurd so
  raise_told (views.coordinator v) (views.refused e a b) place settled r called so = absurd so
  raise_told (views.shard v) is place settled r called so = absurd called.before.named
  raise_told (views.refused e a b) is place settled (Ok done) called so = absurd so.1
  raise_told (views.refused e a b) is place settled (Err back) called so = (so.1.1, inl (away state honest moment left_since counts_now only_now store shards old new now standing coordinator e back.refusal a b is called so.0 so.1.0))
