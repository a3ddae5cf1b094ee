-- What a shard of a store that stands answers for the cares of it, and the coordinator for a raise and a resolution.
use Rattle.std.proofs.Common.{◌≡◌, ◌⊎◌, inl, inr, ⊎_elim, ◌≤◌, ℕ, false, List, Ok, Err, Result, ap}
use Rattle.std.proofs.lemmas.Bool.{cases_Bool}
use Rattle.flow_turns.proofs.CallWords.{Answered, Down, Full, HasNoRoom, HeadsValue, Horizon, IsCalled, IsQuietCall, Moment, NodeName, NodeView, Refusal, ShardIsSeen, ShardView, StandsOver, State, Store, behind_shard, from_shard, left, memory, of_shard, shard, stops}
use Rattle.shard.specs.Calls.{CollectsAt}
use Rattle.calls.specs.Views as views
use Rattle.calls.specs.declared.call.ShardCall.TheVariants as shard_calls
use Rattle.calls.specs.declared.reply.ShardReply.TheVariants as told_by
use Rattle.flow_turns.proofs.Asked.{FromShard, away, shard_gone, shard_tells, staged_made}
use Rattle.flow_turns.proofs.Made.{FailsQuietly, IsQuietlyMade}
use Rattle.flow_turns.proofs.Standing.{shard_is_seen, shard_is_up}

module _ {D : Type 0} (state : D → State) (honest : D → Type 0) (moment : D → ℕ) (left_since : D → ℕ → List ℕ → Type 0)
    (counts_now : (d : D) (t : ℕ) (c : List ℕ) → honest d → t ≤ moment d → left (state d) c → left_since d t c) (only_now : (d : D) (c : List ℕ) → honest d → left_since d (moment d) c → left (state d) c)
    (store shards : ℕ) (old new : Store D) (now : Moment) (standing : StandsOver state honest store shards old now) where
  abbrev Fails : NodeName → Refusal → Type 0
  Fails = FailsQuietly state honest moment left_since store shards old new now standing

  -- a shard that is up did this, and is as quiet as the laws say of it
  abbrev pub ShardDid : ℕ → (ShardView D → ShardView D → Type 0) → Type 0
  ShardDid s P = (v : ShardView D) × (w : ShardView D) × ShardIsSeen store shards s now.nodes v × P v w
      × (IsQuietCall store shards (stops state honest store shards old.devices) (stops state honest store shards old.devices) now (behind_shard s now.nodes w) now.machine
      → IsQuietlyMade state honest moment left_since store shards old new now standing (behind_shard s now.nodes w) now.machine)

  abbrev Tells : ℕ → (ShardView D → Type 0) → Type 0
  Tells s P = FromShard state honest moment left_since counts_now only_now store shards old new now standing s P

  -- a collection up to a horizon: a shard that is up refuses it only for lack of room
  abbrev pub LacksRoom : HeadsValue → Refusal → ShardView D → Type 0
  LacksRoom heads e v = (e ≡ Full) × (heads.horizon ≤ (memory v).learned) × HasNoRoom v.staged (Horizon heads.horizon)

  abbrev pub CollectComes : ℕ → HeadsValue → Result (Unit {0}) Refusal → Type 0
  CollectComes s heads (Ok done) = ShardDid s (λ v w. CollectsAt state honest v heads.horizon w)
  CollectComes s heads (Err e) = Fails (shard s) e ⊎ Tells s (LacksRoom heads e)

  pub collect_told : (s : ℕ) (was is : NodeView D) (heads back : HeadsValue) (r : Result (Unit {0}) Refusal) → IsCalled state honest moment left_since store shards (shard s) was is old new
      → Answered state honest moment left_since was (of_shard s (shard_calls.Collect heads)) (from_shard (told_by.Collect back r)) is → (back ≡ heads) × CollectComes s heads r
  collect_told s (views.shard v) (views.shard w) heads back (Ok done) called so = (
    so.0,
    ⊎_elim
        (λ gone. absurd (let bad : Ok done ≡ Err Down = so.1.down.1 gone in cc))
        (λ is_up. (
          v,
          w,
          shard_is_seen state honest store shards old now standing s v called.before is_up,
          so.1.ok (shard_is_up state honest store shards old now standing s v called.before is_up),
          λ quiet. staged_made state honest moment left_since counts_now only_now store shards old new now standing s v w called so.1.stays is_up quiet,
        ))
        (cases_Bool v.is_down),
  )
  collect_told s (views.shard v) (views.shard w) heads back (Err e) called so = (
    so.0,
    ⊎_elim
        (λ gone. inl (shard_gone state honest moment left_since counts_now only_now store shards old new now standing s v w called e so.1.err.0 gone (let both : Err e ≡ Err Down = so.1.down.1 gone in cc)))
        (λ is_up. by_cause is_up (λ is. so.1.full (shard_is_up state honest store shards old now standing s v called.before is_up) (ap Err is)) so.1.err.1)
        (cases_Bool v.is_down),
  )
    where
      by_cause : v.is_down ≡ false → (e ≡ Full → (heads.horizon ≤ (memory v).learned) × HasNoRoom v.staged (Horizon heads.horizon)) → (e ≡ Down) ⊎ (e ≡ Full) → CollectComes s heads (Err e)
      by_cause is_up full (inl is) = inl (shard_gone state honest moment left_since counts_now only_now store shards old new now standing s v w called e so.1.err.0 (so.1.down.0 (ap Err is)) is)
      by_cause is_up full (inr is) = inr (shard_tells state honest moment left_since counts_now only_now store shards old new now standing s v w called (LacksRoom heads e) so.1.err.0 is_up (is, (full is).0, (full is).1))
  collect_told s (views.shard v) (views.coordinator w) heads back r called so = absurd so
  collect_told s (views.shard v) (views.refused e x y) heads back r called so = absurd so
  collect_told s (views.coordinator v) is heads back r called so = absurd called.before.named
  collect_told s (views.refused e x y) is heads back (Ok done) called so = absurd (let bad : Ok done ≡ Err e = so.1.1 in cc)
  collect_told s (views.refused e x y) is heads back (Err f) called so =
      (so.1.0, inl (away state honest moment left_since counts_now only_now store shards old new now standing (shard s) e f x y is called so.0 (let both : Err f ≡ Err e = so.1.1 in cc)))
