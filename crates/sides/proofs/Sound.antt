-- The calls of a node leave it what it is, whatever list its records stand for.
use Rattle.std.proofs.Common.{◌≡◌, ⊎_elim, ℕ, true, true≢false, List, Result, Option, Some, None, Ok, Err, is_some, refl, sym, ◌∙◌, subst, ap}
use Rattle.std.proofs.lemmas.Option.{same_Some}
use Rattle.std.proofs.lemmas.Bool.{false_from_ne_true}
use Rattle.sides.proofs.Words.{Abort, AbortAnswers, Answered, AnsweredIn, AnsweredThere, Batch, Begin, BeginAnswers, Checkpoint, CheckpointAnswers, Coordinator, coordinator, coordinator_node, CoordinatorAnswers, CoordinatorCall, CoordinatorOpens, CoordinatorReply, CoordinatorView, Decide, DecideAnswers, DecidedValue, devices_of, Flush, FlushAnswers, from_coordinator, from_shard, Heads, Identity, Inquire, IntentValue, IsOfShard, IsSound, IsSoundThere, LogOpenedIn, LogReopens, LogRestartedIn, NodeView, NotDecided, NotRaised, OpenedIn, Outcome, Raise, RaiseAnswers, Refusal, refused, Reply, RestartedIn, SettledValue, Shard, shard, shard_node, ShardAnswers, ShardCall, ShardOpens, ShardReopens, ShardReply, ShardView, State, VerdictValue, VoteValue, WriteValue}
use Rattle.refusal.specs.declared.refusal.Refusal.TheVariants.{Down}
use Rattle.decisions.specs.Coordinators.{IsRunning}
use Rattle.calls.specs.declared.call.ShardCall.TheVariants as shard_calls
use Rattle.calls.specs.declared.reply.CoordinatorReply.TheVariants as told
use Rattle.calls.specs.declared.reply.ShardReply.TheVariants as told_by
use Rattle.calls.specs.Asking.{MayAsk, MayAskCoordinator, MayAskShard}
use Rattle.calls.specs.Opening.{refusal_of}
use Rattle.sides.specs.CoordinatorSides.{MayAskThere}
use Rattle.sides.specs.Joining.{RunsThere}
use Rattle.sides.specs.Sides.{MayAskIn}
use Rattle.sides.proofs.Revived.{still}

module _ {D : Type 0} (state : D → State) (honest : D → Type 0) (store shards : ℕ) where
  pub log_is_there : (node : Option (NodeView D)) → IsSoundThere state honest store shards node → is_some node ≡ true
  log_is_there (Some node) sound = refl
  log_is_there None sound = absurd sound

  -- it may be asked what its store's coordinator may be asked
  pub log_may_ask : (node : Option (NodeView D)) (call : CoordinatorCall) → IsSoundThere state honest store shards node → MayAskCoordinator shards call → MayAskThere node call
  log_may_ask (Some (coordinator v)) call sound may = subst (λ (n : ℕ). MayAskCoordinator n call) (sym (ap (λ (me : Identity). me.shards) sound.me)) may
  log_may_ask (Some (refused e a b)) call sound may = tt
  log_may_ask (Some (shard v)) call sound may = absurd sound
  log_may_ask None call sound may = absurd sound

  -- Given a coordinator before and after a call
  module _ (old new : CoordinatorView D) (sound : IsSound state honest store shards old) where
    abbrev Is : Type 0
    Is = IsSound state honest store shards new

    unchanged : new ≡ old → Is
    unchanged same = subst (λ (v : CoordinatorView D). IsSound state honest store shards v) (sym same) sound

    runs : IsRunning state honest new → new.me ≡ old.me → Is
    runs running me = record { running = λ up. running; honest_a = running.honest_a; honest_b = running.honest_b; me = me ∙ sound.me }

    begun : (write : WriteValue) (r : Result IntentValue Refusal) → BeginAnswers state honest old write r new → Is
    begun write (Ok i) a =
        let begins = a.ok (sound.running (false_from_ne_true old.is_down (λ down. cc (a.down.1 down)))) in
        runs begins.1 (ap (λ (v : CoordinatorView D). v.me) begins.0.new_is)
    begun write (Err e) a = unchanged a.err.0

    decided : (intent : IntentValue) (votes : List VoteValue) (r : Result DecidedValue NotDecided) → DecideAnswers state honest old intent votes r new → Is
    decided intent votes (Ok d) a =
        let decides = a.ok (sound.running (false_from_ne_true old.is_down (λ down. cc (a.was_up down)))) in
        runs decides.1 (ap (λ (v : CoordinatorView D). v.me) decides.0.new_is)
    decided intent votes (Err e) a = unchanged a.same

    aborted : (intent : IntentValue) (r : Result VerdictValue Refusal) → AbortAnswers state honest old intent r new → Is
    aborted intent (Ok v) a =
        let aborts = a.ok (sound.running (false_from_ne_true old.is_down (λ down. cc (a.down.1 down)))) in
        runs aborts.2 (ap (λ (v : CoordinatorView D). v.me) aborts.1.new_is)
    aborted intent (Err e) a = unchanged a.err.0

    raised : (place : ℕ) (settled : List SettledValue) (r : Result (Unit {0}) NotRaised) → RaiseAnswers state honest old place settled r new → Is
    raised place settled (Ok done) a =
        let raises = a.ok (sound.running (false_from_ne_true old.is_down (λ down. cc (a.was_up down)))) in
        runs raises.2 (⊎_elim (λ one. ap (λ (v : CoordinatorView D). v.me) one.1) (λ none. ap (λ (v : CoordinatorView D). v.me) none.1) raises.0.new_is)
    raised place settled (Err e) a = unchanged a.err.0

    flushed : (moment : D → ℕ) (left_since : D → ℕ → List ℕ → Type 0) (r : Result (Unit {0}) Refusal) → FlushAnswers state honest moment left_since old r new → Is
    flushed moment left_since (Ok done) a = runs (a.ok (sound.running a.up.0)).0 a.keeps.me
    flushed moment left_since (Err e) a = record {
      running = λ up. absurd (true≢false (sym a.err.1 ∙ up));
      honest_a = a.still_honest.0.0 sound.honest_a;
      honest_b = a.still_honest.1.0 sound.honest_b;
      me = a.keeps.me ∙ sound.me;
    }

    checkpointed : (moment : D → ℕ) (left_since : D → ℕ → List ℕ → Type 0) (r : Result (Unit {0}) Refusal) → CheckpointAnswers state honest moment left_since old r new → Is
    checkpointed moment left_since (Ok done) a = runs (a.ok (sound.running (false_from_ne_true old.is_down (λ down. cc (a.down down).0)))).0 a.keeps.me
    checkpointed moment left_since (Err e) a = ⊎_elim
        (λ failed. record {
          running = λ up. absurd (true≢false (sym failed.1 ∙ up));
          honest_a = a.still_honest.0.0 sound.honest_a;
          honest_b = a.still_honest.1.0 sound.honest_b;
          me = a.keeps.me ∙ sound.me;
        })
        (λ same. unchanged same.0)
        a.err

  coordinator_stays : (moment : D → ℕ) (left_since : D → ℕ → List ℕ → Type 0) (old new : CoordinatorView D) (call : CoordinatorCall) (reply : CoordinatorReply) → IsSound state honest store shards old
      → CoordinatorAnswers state honest moment left_since old call reply new → IsSound state honest store shards new
  coordinator_stays moment left_since old new (Begin write) (told.Begin r) sound a = begun old new sound write r a
  coordinator_stays moment left_since old new Heads (told.Heads r) sound a = unchanged old new sound a.0
  coordinator_stays moment left_since old new (Batch from to) (told.Batch r) sound a = unchanged old new sound a.0
  coordinator_stays moment left_since old new (Decide intent votes) (told.Decide r) sound a = decided old new sound intent votes.items r a
  coordinator_stays moment left_since old new (Outcome d) (told.Outcome r) sound a = unchanged old new sound a.0
  coordinator_stays moment left_since old new (Abort intent) (told.Abort r) sound a = aborted old new sound intent r a
  coordinator_stays moment left_since old new (Inquire id) (told.Inquire r) sound a = unchanged old new sound a.0
  coordinator_stays moment left_since old new (Raise place settled) (told.Raise r) sound a = raised old new sound place settled.items r a
  coordinator_stays moment left_since old new Flush (told.Flush r) sound a = flushed old new sound moment left_since r a
  coordinator_stays moment left_since old new Checkpoint (told.Checkpoint r) sound a = checkpointed old new sound moment left_since r a
  coordinator_stays moment left_since old new call reply sound a = absurd a

  node_stays : (moment : D → ℕ) (left_since : D → ℕ → List ℕ → Type 0) (call : CoordinatorCall) (old : NodeView D) (reply : Reply) (new : NodeView D) → IsSoundThere state honest store shards (Some old)
      → Answered state honest moment left_since old (Coordinator call) reply new → IsSoundThere state honest store shards (Some new)
  node_stays moment left_since call (coordinator old) (from_coordinator reply) (coordinator new) sound a = coordinator_stays moment left_since old new call reply sound a
  node_stays moment left_since call (refused e x y) reply new sound a = subst (λ (n : NodeView D). IsSoundThere state honest store shards (Some n)) (sym a.0) sound
  node_stays moment left_since call old reply new sound a = absurd a

  -- a call leaves the coordinator sound
  pub log_stays_sound : (moment : D → ℕ) (left_since : D → ℕ → List ℕ → Type 0) (call : CoordinatorCall) (old new : Option (NodeView D)) (reply : Reply) → IsSoundThere state honest store shards old
      → AnsweredThere state honest moment left_since old call reply new → IsSoundThere state honest store shards new
  log_stays_sound moment left_since call (Some old) (Some new) reply sound a = node_stays moment left_since call old reply new sound a
  log_stays_sound moment left_since call old new reply sound a = absurd a

  -- so does an opening over honest devices
  module _ (moment : D → ℕ) (left_since : D → ℕ → List ℕ → Type 0) where
    opens_sound : (a b : D) (is : NodeView D) → honest a → honest b → CoordinatorOpens state honest moment left_since a b (coordinator_node store shards) is → IsSoundThere state honest store shards (Some is)
    opens_sound a b (coordinator v) honest_a honest_b comes =
        let opened = comes.ok honest_a honest_b in
        record { running = λ up. opened.running; honest_a = opened.running.honest_a; honest_b = opened.running.honest_b; me = comes.fresh.2 }
    opens_sound a b (refused e x y) honest_a honest_b stays = (stays.still_honest.0.0 honest_a, stays.still_honest.1.0 honest_b)
    opens_sound a b (shard v) honest_a honest_b opens = absurd opens

    reopens_sound : (old_a old_b : D) (is : NodeView D) → honest old_a → honest old_b → LogReopens state honest moment left_since (coordinator_node store shards) old_a old_b is → IsSoundThere state honest store shards (Some is)
    reopens_sound old_a old_b is honest_a honest_b r =
        let now_a = still state honest old_a r.a honest_a r.revived_a in
        let now_b = still state honest old_b r.b honest_b r.revived_b in
        ⊎_elim
        (λ up. opens_sound r.a r.b is now_a now_b up.2)
        (λ down. subst (λ (n : NodeView D). IsSoundThere state honest store shards (Some n)) (sym down.0) (now_a, now_b))
        r.opens

    pub log_opens_sound : (a b : D) (is : Option (NodeView D)) → honest a → honest b → LogOpenedIn state honest moment left_since (coordinator_node store shards) a b is → IsSoundThere state honest store shards is
    log_opens_sound a b (Some is) honest_a honest_b r = reopens_sound a b is honest_a honest_b r
    log_opens_sound a b None honest_a honest_b r = absurd r

    runs_there : (a b : D) (is : NodeView D) → honest a → honest b → refusal_of is ≡ None → CoordinatorOpens state honest moment left_since a b (coordinator_node store shards) is → RunsThere state honest (Some is)
    runs_there a b (coordinator v) honest_a honest_b none comes = let opened = comes.ok honest_a honest_b in opened.running
    runs_there a b (refused e x y) honest_a honest_b none stays = absurd (let bad : Some e ≡ None = none in cc)
    runs_there a b (shard v) honest_a honest_b none opens = absurd opens

    -- one that is not refused is up
    pub reopened_runs : (old_a old_b : D) (is : NodeView D) → honest old_a → honest old_b → refusal_of is ≡ None → LogReopens state honest moment left_since (coordinator_node store shards) old_a old_b is → RunsThere state honest (Some is)
    reopened_runs old_a old_b is honest_a honest_b none r = ⊎_elim
        (λ up. runs_there r.a r.b is (still state honest old_a r.a honest_a r.revived_a) (still state honest old_b r.b honest_b r.revived_b) none up.2)
        (λ down. absurd (let bad : Some Down ≡ None = ap refusal_of (sym down.0) ∙ none in cc))
        r.opens

    devices_honest : (node : NodeView D) → IsSoundThere state honest store shards (Some node) → honest (devices_of node).0 × honest (devices_of node).1
    devices_honest (coordinator v) sound = (sound.honest_a, sound.honest_b)
    devices_honest (refused e a b) sound = sound
    devices_honest (shard v) sound = absurd sound

    pub log_restarts_sound : (was is : Option (NodeView D)) (refusal : Option Refusal) → IsSoundThere state honest store shards was → LogRestartedIn state honest moment left_since (coordinator_node store shards) was refusal is
        → IsSoundThere state honest store shards is
    log_restarts_sound (Some was) (Some is) refusal sound r =
        let both = devices_honest was sound in
        reopens_sound (devices_of was).0 (devices_of was).1 is both.0 both.1 r.0
    log_restarts_sound was is refusal sound r = absurd r

-- one that is refused is that refusal, and no node
pub opens_or_is_refused : {D : Type 0} (state : D → State) (honest : D → Type 0) (moment : D → ℕ) (left_since : D → ℕ → List ℕ → Type 0) (me : Identity) (a b : D) (is : NodeView D) (e : Refusal) → refusal_of is ≡ Some e
    → LogReopens state honest moment left_since me a b is → (x : D) × (y : D) × LogReopens state honest moment left_since me a b (refused e x y)
opens_or_is_refused state honest moment left_since me a b (refused f x y) e same r = (x, y, subst (λ (e : Refusal). LogReopens state honest moment left_since me a b (refused e x y)) (same_Some f e same) r)
opens_or_is_refused state honest moment left_since me a b (coordinator v) e same r = absurd (let bad : None ≡ Some e = same in cc)
opens_or_is_refused state honest moment left_since me a b (shard v) e same r = absurd (let bad : None ≡ Some e = same in cc)

-- a call of a shard leaves it that shard
module _ {D : Type 0} (state : D → State) (honest : D → Type 0) (moment : D → ℕ) (left_since : D → ℕ → List ℕ → Type 0) (store shards s : ℕ) where
  same_me : (old new : ShardView D) (call : ShardCall) (reply : ShardReply) → ShardAnswers state honest moment left_since old call reply new → new.me ≡ old.me
  same_me old new shard_calls.Learned (told_by.Learned r) a = ap (λ (v : ShardView D). v.me) a.0
  same_me old new (shard_calls.Learn b) (told_by.Learn back r) a = ap (λ (v : ShardView D). v.me) a.1.stays
  same_me old new (shard_calls.StagePrepare intent) (told_by.StagePrepare back r) a = ap (λ (v : ShardView D). v.me) a.1.stays
  same_me old new (shard_calls.Vote ticket) (told_by.Vote r) a = ap (λ (v : ShardView D). v.me) a.0
  same_me old new (shard_calls.DropWrite verdict held) (told_by.DropWrite back r) a = ap (λ (v : ShardView D). v.me) a.1.stays
  same_me old new shard_calls.InDoubt (told_by.InDoubt r) a = ap (λ (v : ShardView D). v.me) a.0
  same_me old new (shard_calls.Read place set) (told_by.Read back r) a = ap (λ (v : ShardView D). v.me) a.0
  same_me old new (shard_calls.ReadForCheck place x u) (told_by.ReadForCheck back_x back_u r) a = ap (λ (v : ShardView D). v.me) a.0
  same_me old new shard_calls.Settle (told_by.Settle r) a = ap (λ (v : ShardView D). v.me) a.0
  same_me old new (shard_calls.Collect heads) (told_by.Collect back r) a = ap (λ (v : ShardView D). v.me) a.1.stays
  same_me old new shard_calls.Flush (told_by.Flush r) a = a.me
  same_me old new shard_calls.Checkpoint (told_by.Checkpoint r) a = a.me
  same_me old new call reply a = absurd a

  shard_node_stays : (call : ShardCall) (old : NodeView D) (reply : Reply) (new : NodeView D) → IsOfShard store shards s (Some old) → Answered state honest moment left_since old (Shard s call) reply new → IsOfShard store shards s (Some new)
  shard_node_stays call (shard old) (from_shard reply) (shard new) is a = same_me old new call reply a ∙ is
  shard_node_stays call (refused e x y) reply new is a = subst (λ (n : NodeView D). IsOfShard store shards s (Some n)) (sym a.0) is
  shard_node_stays call old reply new is a = absurd a

  pub shard_stays_there : (call : ShardCall) (old new : Option (NodeView D)) (reply : Reply) → IsOfShard store shards s old → AnsweredIn state honest moment left_since s old call reply new → IsOfShard store shards s new
  shard_stays_there call (Some old) (Some new) reply is a = shard_node_stays call old reply new is a
  shard_stays_there call old new reply is a = absurd a

  opens_there : (a b : D) (is : NodeView D) → ShardOpens state honest moment left_since a b (shard_node store shards s) is → IsOfShard store shards s (Some is)
  opens_there a b (shard v) comes = comes.fresh.2
  opens_there a b (refused e x y) stays = tt
  opens_there a b (coordinator v) opens = absurd opens

  reopens_there : (a b : D) (is : NodeView D) → ShardReopens state honest moment left_since (shard_node store shards s) a b is → IsOfShard store shards s (Some is)
  reopens_there a b is r = ⊎_elim
      (λ up. opens_there r.a r.b is up.2)
      (λ down. subst (λ (n : NodeView D). IsOfShard store shards s (Some n)) (sym down.0) tt)
      r.opens

  pub shard_opens_there : (a b : D) (is : Option (NodeView D)) → OpenedIn state honest moment left_since (shard_node store shards s) a b is → IsOfShard store shards s is
  shard_opens_there a b (Some is) r = reopens_there a b is r
  shard_opens_there a b None r = absurd r

  pub shard_restarts_there : (was is : Option (NodeView D)) (refusal : Option Refusal) → RestartedIn state honest moment left_since (shard_node store shards s) was refusal is → IsOfShard store shards s is
  shard_restarts_there (Some was) (Some is) refusal r = reopens_there (devices_of was).0 (devices_of was).1 is r.0
  shard_restarts_there was is refusal r = absurd r

-- it may be asked what its shard may be asked
module _ {D : Type 0} (store shards s : ℕ) where
  may_ask_shard : (node : NodeView D) (call : ShardCall) → IsOfShard store shards s (Some node) → MayAskShard shards s call → MayAsk node (Shard s call)
  may_ask_shard (shard v) call is may = (ap (λ (me : Identity). me.node) is, subst (λ (n : ℕ). MayAskShard n s call) (sym (ap (λ (me : Identity). me.shards) is)) may)
  may_ask_shard (refused e a b) call is may = tt
  may_ask_shard (coordinator v) call is may = absurd is

  pub may_ask : (node : Option (NodeView D)) (call : ShardCall) → IsOfShard store shards s node → MayAskShard shards s call → MayAskIn s node call
  may_ask (Some node) call is may = may_ask_shard node call is may
  may_ask None call is may = absurd is

  pub is_there : (node : Option (NodeView D)) → IsOfShard store shards s node → is_some node ≡ true
  is_there (Some node) is = refl
  is_there None is = absurd is
