-- The calls of the coordinator under its lock leave it tied.
use Rattle.std.proofs.Common.{◌≡◌, ◌≤◌, ◌<◌, ⊎_elim, ℕ, false, true≢false, List, [], ◌∷◌, ◌++◌, length, Result, Option, Some, Ok, Err, refl, sym, ◌∙◌, subst, ap}
use Rattle.std.proofs.lemmas.List.{append-nil}
use Rattle.std.proofs.lemmas.Bool.{false_from_ne_true}
use Rattle.sides.proofs.Words.{Abort, AbortAnswers, Answered, AnsweredThere, Attempt, attempt, Batch, Begin, BeginAnswers, beginnings_stay_tied, Checkpoint, CheckpointAnswers, Coordinator, coordinator, CoordinatorAnswers, CoordinatorCall, CoordinatorMayJoin, CoordinatorReply, CoordinatorView, Decide, DecideAnswers, DecidedValue, Entry, Flush, from_coordinator, Heads, Inquire, IntentValue, IsOpenedTied, IsTied, IsTiedThere, IsTiedUp, landings_stay_tied, left, MayJoin, NodeView, NotRaised, Outcome, Raise, RaiseAnswers, Refusal, refused, Refuses, Reply, SettledValue, State, tied_up_is_tied, tried_by, VerdictValue, VoteValue, WriteValue}
use Rattle.calls.specs.declared.reply.CoordinatorReply.TheVariants as told
use Rattle.ties.proofs.Deciding.{aborts_stay_tied, decisions_stay_tied, raises_stay_tied}
use Rattle.ties.proofs.Points.{checkpoints_stay_tied, failed_checkpoints_stay_tied}
use Rattle.sides.specs.CoordinatorSides.{is_log_flush, write_of}
use Rattle.sides.proofs.ShardCalls.{up_or_down}

module _ {D : Type 0} (state : D → State) (honest : D → Type 0) (store shards : ℕ) where
  -- Given a coordinator before and after a call
  module _ (old new : CoordinatorView D) (seen : List Entry) (low : ℕ) (tried : List Attempt) (tied : IsOpenedTied state honest store shards old seen low tried) where
    unchanged : new ≡ old → IsOpenedTied state honest store shards new seen low tried
    unchanged same = subst (λ (v : CoordinatorView D). IsOpenedTied state honest store shards v seen low tried) (sym same) tied

    begun : (write : WriteValue) (r : Result IntentValue Refusal) → BeginAnswers state honest old write r new → IsOpenedTied state honest store shards new seen low tried
    begun write (Ok i) a =
        let up = tied.up (false_from_ne_true old.is_down (λ down. cc (a.down.1 down))) in
        let begins = (a.ok up.running).0 in
        tied_up_is_tied state honest store shards new seen low tried (beginnings_stay_tied state honest old new write.changes write.conditions i seen low tried up begins).0
        (ap (λ (v : CoordinatorView D). v.me) begins.new_is ∙ tied.me)
    begun write (Err e) a = unchanged a.err.0

    aborted : (intent : IntentValue) (r : Result VerdictValue Refusal) → AbortAnswers state honest old intent r new → IsOpenedTied state honest store shards new seen low tried
    aborted intent (Ok v) a =
        let up = tied.up (false_from_ne_true old.is_down (λ down. cc (a.down.1 down))) in
        let aborts = (a.ok up.running).1 in
        tied_up_is_tied state honest store shards new seen low tried (aborts_stay_tied state honest old new intent.write.id seen low tried up aborts)
        (ap (λ (v : CoordinatorView D). v.me) aborts.new_is ∙ tied.me)
    aborted intent (Err e) a = unchanged a.err.0

    raised : (place : ℕ) (settled : List SettledValue) (r : Result (Unit {0}) NotRaised) → RaiseAnswers state honest old place settled r new → IsOpenedTied state honest store shards new seen low tried
    raised place settled (Ok done) a =
        let up = tied.up (false_from_ne_true old.is_down (λ down. cc (a.was_up down))) in
        let raises = (a.ok up.running).0 in
        tied_up_is_tied state honest store shards new seen low tried (raises_stay_tied state honest old new place seen low tried up raises (a.ok up.running).1)
        (⊎_elim (λ one. ap (λ (v : CoordinatorView D). v.me) one.1) (λ none. ap (λ (v : CoordinatorView D). v.me) none.1) raises.new_is ∙ tied.me)
    raised place settled (Err e) a = unchanged a.err.0

    decided_up : (intent : IntentValue) (votes : List VoteValue) (d : DecidedValue) → DecideAnswers state honest old intent votes (Ok d) new
        → IsTiedUp state honest new seen low (tried ++ attempt d intent.write ∷ []) × (length seen < d.place)
    decided_up intent votes d a =
        let up = tied.up (false_from_ne_true old.is_down (λ down. cc (a.was_up down))) in
        decisions_stay_tied state honest old new intent.write d seen low tried up (a.ok up.running).0

    -- a decision that is staged is one more that is known
    pub decided : (intent : IntentValue) (votes : List VoteValue) (d : DecidedValue) → DecideAnswers state honest old intent votes (Ok d) new
        → IsOpenedTied state honest store shards new seen low (tried ++ attempt d intent.write ∷ []) × (length seen < d.place)
    decided intent votes d a =
        let up = tied.up (false_from_ne_true old.is_down (λ down. cc (a.was_up down))) in
        let next = decided_up intent votes d a in (
          tied_up_is_tied state honest store shards new seen low (tried ++ attempt d intent.write ∷ []) next.0 (ap (λ (v : CoordinatorView D). v.me) (a.ok up.running).0.new_is ∙ tied.me),
          next.1,
        )

    -- one that is as it was may join as it is
    stays_joined : new ≡ old → CoordinatorMayJoin state honest store shards new seen low tried
    stays_joined same = subst (λ (v : CoordinatorView D). CoordinatorMayJoin state honest store shards v seen low tried) (sym same) (record {
      up = λ up.
          let was = tied.up up in
          landings_stay_tied state honest state honest old old 0 seen low tried was (record { durable = sym (append-nil old.durable); staged = refl; open_ids = refl; given = refl }) was.running;
      down = λ down. tied.anywhere;
      me = tied.me;
    })

    -- and so may what was replaced by a checkpoint
    pub checkpointed : (moment : D → ℕ) (left_since : D → ℕ → List ℕ → Type 0) → ((d : D) (t : ℕ) (c : List ℕ) → honest d → t ≤ moment d → left (state d) c → left_since d t c)
        → (r : Result (Unit {0}) Refusal) → CheckpointAnswers state honest moment left_since old r new → CoordinatorMayJoin state honest store shards new seen low tried
    checkpointed moment left_since counts_now (Ok done) a =
        let up = tied.up (false_from_ne_true old.is_down (λ down. cc (a.down down).0)) in
        let ok = a.ok up.running in
        record {
          up = λ is_up. checkpoints_stay_tied state honest old new seen low tried up (record { durable = ok.1; staged = ok.2 }) a.keeps ok.0;
          down = λ down. absurd (true≢false (sym down ∙ ok.3));
          me = a.keeps.me ∙ tied.me;
        }
    checkpointed moment left_since counts_now (Err e) a = ⊎_elim
        (λ was_up. ⊎_elim
        (λ failed.
        let up = tied.up was_up in
        record {
          up = λ is_up. absurd (true≢false (sym failed.1 ∙ is_up));
          down = λ down. (failed_checkpoints_stay_tied state honest moment left_since counts_now store shards old new seen low tried up tied.me a.keeps (a.still_honest.0.0 up.running.honest_a) (a.still_honest.1.0 up.running.honest_b) failed.1 (a.any_moment up.running)).anywhere;
          me = a.keeps.me ∙ tied.me;
        })
        (λ same. stays_joined same.0)
        a.err)
        (λ was_down. stays_joined (a.down was_down).1)
        (up_or_down old.is_down)

-- Given also what a device tells of the moments of a call
module _ {D : Type 0} (state : D → State) (honest : D → Type 0) (moment : D → ℕ) (left_since : D → ℕ → List ℕ → Type 0) (store shards : ℕ) (seen : List Entry) (low : ℕ) (tried : List Attempt) where
  abbrev StaysTied : CoordinatorView D → List Attempt → Type 0
  StaysTied v more = IsOpenedTied state honest store shards v seen low (tried ++ more)

  none_more : (v : CoordinatorView D) → IsOpenedTied state honest store shards v seen low tried → StaysTied v []
  none_more v tied = subst (λ (l : List Attempt). IsOpenedTied state honest store shards v seen low l) (sym (append-nil tried)) tied

  -- a decision that is told is one more that was once staged
  coordinator_stays : (call : CoordinatorCall) → is_log_flush call ≡ false → (old new : CoordinatorView D) (reply : CoordinatorReply) → IsOpenedTied state honest store shards old seen low tried
      → CoordinatorAnswers state honest moment left_since old call reply new → StaysTied new (tried_by (write_of call) (from_coordinator reply))
  coordinator_stays (Begin write) calm old new (told.Begin r) tied a = none_more new (begun state honest store shards old new seen low tried tied write r a)
  coordinator_stays Heads calm old new (told.Heads r) tied a = none_more new (unchanged state honest store shards old new seen low tried tied a.0)
  coordinator_stays (Batch from to) calm old new (told.Batch r) tied a = none_more new (unchanged state honest store shards old new seen low tried tied a.0)
  coordinator_stays (Decide intent votes) calm old new (told.Decide (Ok d)) tied a = (decided state honest store shards old new seen low tried tied intent votes.items d a).0
  coordinator_stays (Decide intent votes) calm old new (told.Decide (Err e)) tied a = none_more new (unchanged state honest store shards old new seen low tried tied a.same)
  coordinator_stays (Outcome d) calm old new (told.Outcome r) tied a = none_more new (unchanged state honest store shards old new seen low tried tied a.0)
  coordinator_stays (Abort intent) calm old new (told.Abort r) tied a = none_more new (aborted state honest store shards old new seen low tried tied intent r a)
  coordinator_stays (Inquire id) calm old new (told.Inquire r) tied a = none_more new (unchanged state honest store shards old new seen low tried tied a.0)
  coordinator_stays (Raise place settled) calm old new (told.Raise r) tied a = none_more new (raised state honest store shards old new seen low tried tied place settled.items r a)
  coordinator_stays Flush calm old new reply tied a = absurd (cc calm)
  coordinator_stays Checkpoint calm old new reply tied a = absurd (cc calm)
  coordinator_stays call calm old new reply tied a = absurd a

  none_by_refused : (e : Refusal) (w : Entry) (call : CoordinatorCall) (reply : Reply) → Refuses e (Coordinator call) reply → tried_by w reply ≡ []
  none_by_refused e w (Decide intent votes) (from_coordinator (told.Decide (Ok d))) r = absurd r
  none_by_refused e w call (from_coordinator (told.Decide (Ok d))) r = absurd r
  none_by_refused e w call reply r = refl

  node_stays : (call : CoordinatorCall) → is_log_flush call ≡ false → (old : NodeView D) (reply : Reply) (new : NodeView D) → IsTied state honest store shards old seen low tried
      → Answered state honest moment left_since old (Coordinator call) reply new → IsTied state honest store shards new seen low (tried ++ tried_by (write_of call) reply)
  node_stays call calm (coordinator old) (from_coordinator reply) (coordinator new) tied a = coordinator_stays call calm old new reply tied a
  node_stays call calm (refused e x y) reply new tied a =
      let none : tried ++ tried_by (write_of call) reply ≡ tried = ap (λ (l : List Attempt). tried ++ l) (none_by_refused e (write_of call) call reply a.1) ∙ append-nil tried in
      subst (λ (l : List Attempt). IsTied state honest store shards new seen low l) (sym none) (subst (λ (n : NodeView D). IsTied state honest store shards n seen low tried) (sym a.0) tied)
  node_stays call calm old reply new tied a = absurd a

  -- a call that needs no devices leaves what lies under the lock tied
  pub log_call_stays : (call : CoordinatorCall) → is_log_flush call ≡ false → (old new : Option (NodeView D)) (reply : Reply) → IsTiedThere state honest store shards old seen low tried
      → AnsweredThere state honest moment left_since old call reply new → IsTiedThere state honest store shards new seen low (tried ++ tried_by (write_of call) reply)
  log_call_stays call calm (Some old) (Some new) reply tied a = node_stays call calm old reply new tied a
  log_call_stays call calm old new reply tied a = absurd a

  -- Given that what a stop may leave now is among what it may leave since an earlier moment
  module _ (counts_now : (d : D) (t : ℕ) (c : List ℕ) → honest d → t ≤ moment d → left (state d) c → left_since d t c) where
    coordinator_checkpointed : (old new : CoordinatorView D) (reply : CoordinatorReply) → IsOpenedTied state honest store shards old seen low tried
        → CoordinatorAnswers state honest moment left_since old Checkpoint reply new → CoordinatorMayJoin state honest store shards new seen low tried
    coordinator_checkpointed old new (told.Checkpoint r) tied a = checkpointed state honest store shards old new seen low tried tied moment left_since counts_now r a
    coordinator_checkpointed old new reply tied a = absurd a

    node_checkpointed : (old : NodeView D) (reply : Reply) (new : NodeView D) → IsTied state honest store shards old seen low tried
        → Answered state honest moment left_since old (Coordinator Checkpoint) reply new → MayJoin state honest store shards (Some new) seen low tried
    node_checkpointed (coordinator old) (from_coordinator reply) (coordinator new) tied a = coordinator_checkpointed old new reply tied a
    node_checkpointed (refused e x y) reply new tied a = subst (λ (n : NodeView D). MayJoin state honest store shards (Some n) seen low tried) (sym a.0) tied
    node_checkpointed old reply new tied a = absurd a

    -- what was replaced by a checkpoint may join the list
    pub checkpoint_may_join : (old new : Option (NodeView D)) (reply : Reply) → IsTiedThere state honest store shards old seen low tried
        → AnsweredThere state honest moment left_since old Checkpoint reply new → MayJoin state honest store shards new seen low tried
    checkpoint_may_join (Some old) (Some new) reply tied a = node_checkpointed old reply new tied a
    checkpoint_may_join old new reply tied a = absurd a
