-- What a shard of a store that stands answers for a read, and for one of a check.
use Rattle.std.proofs.Common.{◌≡◌, ◌⊎◌, inl, inr, ⊎_elim, ◌≤◌, ◌<◌, ℕ, false, List, Ok, Err, Result, refl, ap}
use Rattle.std.proofs.lemmas.Bool.{cases_Bool}
use Rattle.flow_turns.proofs.CallWords.{Answered, Collected, Down, IsCalled, Moment, NoMemory, NodeName, NodeView, Refusal, ShardView, StandsOver, State, Store, from_shard, left, memory, of_shard, shard}
use Rattle.tuples.specs.declared.object.Userset.{Userset}
use Rattle.tuples.specs.declared.tupleset.Tupleset.{Tupleset}
use Rattle.tuples.specs.declared.user.User.{User}
use Rattle.shard.specs.Calls.{ReadsAt, ReadsForCheckAt}
use Rattle.shard.specs.declared.replies.ReadReply.{ReadReply}
use Rattle.shard.specs.declared.replies.ReadReply.TheVariants.{Rows, Behind}
use Rattle.calls.specs.Views as views
use Rattle.calls.specs.declared.call.ShardCall.TheVariants as shard_calls
use Rattle.calls.specs.declared.reply.ShardReply.TheVariants as told_by
use Rattle.flow_turns.proofs.Asked.{FromShard, away, shard_gone, shard_tells}
use Rattle.flow_turns.proofs.Made.{FailsQuietly}
use Rattle.flow_turns.proofs.Standing.{shard_is_up}

module _ {D : Type 0} (state : D → State) (honest : D → Type 0) (moment : D → ℕ) (left_since : D → ℕ → List ℕ → Type 0)
    (counts_now : (d : D) (t : ℕ) (c : List ℕ) → honest d → t ≤ moment d → left (state d) c → left_since d t c) (only_now : (d : D) (c : List ℕ) → honest d → left_since d (moment d) c → left (state d) c)
    (store shards : ℕ) (old new : Store D) (now : Moment) (standing : StandsOver state honest store shards old now) where
  abbrev Fails : NodeName → Refusal → Type 0
  Fails = FailsQuietly state honest moment left_since store shards old new now standing

  abbrev Tells : ℕ → (ShardView D → Type 0) → Type 0
  Tells s P = FromShard state honest moment left_since counts_now only_now store shards old new now standing s P

  -- a shard that is up refuses a read at a place below its horizon, or for lack of memory
  abbrev pub ReadRefused : ℕ → Refusal → ShardView D → Type 0
  ReadRefused place e v = ((e ≡ Collected) × (place < (memory v).horizon)) ⊎ (e ≡ NoMemory)

  -- the rows of a tupleset at a place, or that it has not learned so far
  abbrev pub ReadComes : ℕ → ℕ → Tupleset → Result ReadReply Refusal → Type 0
  ReadComes s place set (Ok (Rows ts)) = Tells s (λ v. ReadsAt v place set ts.items)
  ReadComes s place set (Ok Behind) = Tells s (λ v. (memory v).learned < place)
  ReadComes s place set (Err e) = Fails (shard s) e ⊎ Tells s (ReadRefused place e)

  pub read_told : (s place : ℕ) (set back : Tupleset) (was is : NodeView D) (r : Result ReadReply Refusal) → IsCalled state honest moment left_since store shards (shard s) was is old new
      → Answered state honest moment left_since was (of_shard s (shard_calls.Read place set)) (from_shard (told_by.Read back r)) is → (back ≡ set) × ReadComes s place set r
  read_told s place set back (views.shard v) (views.shard w) (Ok (Rows ts)) called so = (
    so.1,
    ⊎_elim
        (λ gone. absurd (let bad : Ok (Rows ts) ≡ Err Down = so.2.down.1 gone in cc))
        (λ is_up. shard_tells state honest moment left_since counts_now only_now store shards old new now standing s v w called (λ x. ReadsAt x place set ts.items) so.0 is_up
        (so.2.rows ts (shard_is_up state honest store shards old now standing s v called.before is_up) refl))
        (cases_Bool v.is_down),
  )
  read_told s place set back (views.shard v) (views.shard w) (Ok Behind) called so = (
    so.1,
    ⊎_elim
        (λ gone. absurd (let bad : Ok Behind ≡ Err Down = so.2.down.1 gone in cc))
        (λ is_up. shard_tells state honest moment left_since counts_now only_now store shards old new now standing s v w called (λ x. (memory x).learned < place) so.0 is_up
        (so.2.behind (shard_is_up state honest store shards old now standing s v called.before is_up) refl))
        (cases_Bool v.is_down),
  )
  read_told s place set back (views.shard v) (views.shard w) (Err e) called so = (
    so.1,
    ⊎_elim
        (λ gone. inl (shard_gone state honest moment left_since counts_now only_now store shards old new now standing s v w called e so.0 gone (let both : Err e ≡ Err Down = so.2.down.1 gone in cc)))
        (λ is_up. by_cause is_up (λ is. (so.2.collected (shard_is_up state honest store shards old now standing s v called.before is_up)).0 (ap Err is)) so.2.err)
        (cases_Bool v.is_down),
  )
    where
      by_cause : v.is_down ≡ false → (e ≡ Collected → place < (memory v).horizon) → (e ≡ Down) ⊎ ((e ≡ Collected) ⊎ (e ≡ NoMemory)) → ReadComes s place set (Err e)
      by_cause is_up low (inl is) = inl (shard_gone state honest moment left_since counts_now only_now store shards old new now standing s v w called e so.0 (so.2.down.0 (ap Err is)) is)
      by_cause is_up low (inr (inl is)) = inr (shard_tells state honest moment left_since counts_now only_now store shards old new now standing s v w called (ReadRefused place e) so.0 is_up (inl (is, low is)))
      by_cause is_up low (inr (inr is)) = inr (shard_tells state honest moment left_since counts_now only_now store shards old new now standing s v w called (ReadRefused place e) so.0 is_up (inr is))
  read_told s place set back (views.shard v) (views.coordinator w) r called so = absurd so
  read_told s place set back (views.shard v) (views.refused e x y) r called so = absurd so
  read_told s place set back (views.coordinator v) is r called so = absurd called.before.named
  read_told s place set back (views.refused e x y) is (Ok reply) called so = absurd (let bad : Ok reply ≡ Err e = so.1.1 in cc)
  read_told s place set back (views.refused e x y) is (Err f) called so =
      (so.1.0, inl (away state honest moment left_since counts_now only_now store shards old new now standing (shard s) e f x y is called so.0 (let both : Err f ≡ Err e = so.1.1 in cc)))

  -- what a check asks of a userset at a place, or that it has not learned so far
  abbrev pub ReadForCheckComes : ℕ → ℕ → Userset → User → Result ReadReply Refusal → Type 0
  ReadForCheckComes s place y u (Ok (Rows ts)) = Tells s (λ v. ReadsForCheckAt v place y u ts.items)
  ReadForCheckComes s place y u (Ok Behind) = Tells s (λ v. (memory v).learned < place)
  ReadForCheckComes s place y u (Err e) = Fails (shard s) e ⊎ Tells s (ReadRefused place e)

  pub read_for_check_told : (s place : ℕ) (y back_y : Userset) (u back_u : User) (was is : NodeView D) (r : Result ReadReply Refusal) → IsCalled state honest moment left_since store shards (shard s) was is old new
      → Answered state honest moment left_since was (of_shard s (shard_calls.ReadForCheck place y u)) (from_shard (told_by.ReadForCheck back_y back_u r)) is → ReadForCheckComes s place y u r
  read_for_check_told s place y back_y u back_u (views.shard v) (views.shard w) (Ok (Rows ts)) called so = ⊎_elim
      (λ gone. absurd (let bad : Ok (Rows ts) ≡ Err Down = so.3.down.1 gone in cc))
      (λ is_up. shard_tells state honest moment left_since counts_now only_now store shards old new now standing s v w called (λ x. ReadsForCheckAt x place y u ts.items) so.0 is_up
      (so.3.rows ts (shard_is_up state honest store shards old now standing s v called.before is_up) refl))
      (cases_Bool v.is_down)
  read_for_check_told s place y back_y u back_u (views.shard v) (views.shard w) (Ok Behind) called so = ⊎_elim
      (λ gone. absurd (let bad : Ok Behind ≡ Err Down = so.3.down.1 gone in cc))
      (λ is_up. shard_tells state honest moment left_since counts_now only_now store shards old new now standing s v w called (λ x. (memory x).learned < place) so.0 is_up
      (so.3.behind (shard_is_up state honest store shards old now standing s v called.before is_up) refl))
      (cases_Bool v.is_down)
  read_for_check_told s place y back_y u back_u (views.shard v) (views.shard w) (Err e) called so = ⊎_elim
      (λ gone. inl (shard_gone state honest moment left_since counts_now only_now store shards old new now standing s v w called e so.0 gone (let both : Err e ≡ Err Down = so.3.down.1 gone in cc)))
      (λ is_up. by_cause is_up (λ is. (so.3.collected (shard_is_up state honest store shards old now standing s v called.before is_up)).0 (ap Err is)) so.3.err)
      (cases_Bool v.is_down)
    where
      by_cause : v.is_down ≡ false → (e ≡ Collected → place < (memory v).horizon) → (e ≡ Down) ⊎ ((e ≡ Collected) ⊎ (e ≡ NoMemory)) → ReadForCheckComes s place y u (Err e)
      by_cause is_up low (inl is) = inl (shard_gone state honest moment left_since counts_now only_now store shards old new now standing s v w called e so.0 (so.3.down.0 (ap Err is)) is)
      by_cause is_up low (inr (inl is)) = inr (shard_tells state honest moment left_since counts_now only_now store shards old new now standing s v w called (ReadRefused place e) so.0 is_up (inl (is, low is)))
      by_cause is_up low (inr (inr is)) = inr (shard_tells state honest moment left_since counts_now only_now store shards old new now standing s v w called (ReadRefused place e) so.0 is_up (inr is))
  read_for_check_told s place y back_y u back_u (views.shard v) (views.coordinator w) r called so = absurd so
  read_for_check_told s place y back_y u back_u (views.shard v) (views.refused e a b) r called so = absurd so
  read_for_check_told s place y back_y u back_u (views.coordinator v) is r called so = absurd called.before.named
  read_for_check_told s place y back_y u back_u (views.refused e a b) is (Ok reply) called so = absurd (let bad : Ok reply ≡ Err e = so.1.2 in cc)
  read_for_check_told s place y back_y u back_u (views.refused e a b) is (Err f) called so =
      inl (away state honest moment left_since counts_now only_now store shards old new now standing (shard s) e f a b is called so.0 (let both : Err f ≡ Err e = so.1.2 in cc))
