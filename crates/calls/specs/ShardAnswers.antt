-- What each call of a shard answers, in the words of the shard's own contracts.
use Rattle.std.specs.Prelude.{◌≡◌, ◌⊎◌, ◌↔◌, ◌≤◌, ◌<◌, ℕ, Bool, true, List, [], Result, Err, None, IfOk, IfErr, IsErr, IsErrOf, OnOk, OnErr, ◌∷◌}
use Rattle.refusal.specs.Refusals.{IsOneOf}
use Rattle.std.specs.Global.{Vec}
use Rattle.tuples.specs.declared.entry.WriteId.{WriteId}
use Rattle.tuples.specs.declared.tuple.Tuple.{Tuple}
use Rattle.tuples.specs.declared.object.Userset.{Userset}
use Rattle.tuples.specs.declared.user.User.{User}
use Rattle.tuples.specs.declared.tupleset.Tupleset.{Tupleset}
use Rattle.refusal.specs.declared.refusal.Refusal.{Refusal}
use Rattle.refusal.specs.declared.refusal.Refusal.TheVariants.{Aborted, Busy, Collected, Damaged, Down, Full, NoMemory, Precondition}
use Rattle.records.specs.Replays.{find_in_doubt, greatest_number}
use Rattle.device.specs.Device.{State}
use Rattle.records.specs.declared.record.Record.TheVariants.{Horizon}
use Rattle.records.specs.Checkpoints.{generation_of}
use Rattle.journal.specs.Ahead.{HasPointCause}
use Rattle.journal.specs.Records.{HasCause, HasNoRoom, HasOldOrNew, LeavesBoth, LeavesEach}
use Rattle.shard.specs.Checkpoints.{ChecksPointAt, HasOldNewOrPoint}
use Rattle.decisions.specs.Values.{BatchValue, HeadsValue, IntentValue, SettledValue, TicketValue, VerdictValue, VoteValue}
use Rattle.shard.specs.declared.replies.VoteReply.{VoteReply}
use Rattle.shard.specs.declared.replies.VoteReply.TheVariants.{Yes, Later, No}
use Rattle.shard.specs.declared.replies.ReadReply.{ReadReply}
use Rattle.shard.specs.declared.replies.ReadReply.TheVariants.{Rows, Behind}
use Rattle.shard.specs.Shards.{IsUp, ShardView, journal_of, memory}
use Rattle.shard.specs.Calls.{CollectsAt, DoubtsAt, DropsAt, FlushesAt, LearnRefused, LearnsAt, PrepareRefused, PreparesAt, ReadsAt, ReadsForCheckAt, SettlesAt, VotesAt, VotesLater}

-- nothing is changed but what is staged
abbrev pub Stays : {D : Type 0} → ShardView D → ShardView D → Type 0
Stays old new = new ≡ record old { staged = new.staged }

module _ {D : Type 0} (state : D → State) (honest : D → Type 0) where
  -- the place that it has learned
  pub record LearnedAnswers (v : ShardView D) (r : Result ℕ Refusal) : Type 0 where
    pub ok : IsUp state honest v → IfOk r (λ n. n ≡ (memory v).learned)
    pub down : IsErr r ↔ (v.is_down ≡ true)
    pub err : IfErr r (λ e. e ≡ Down)

  -- decisions are learned, or not
  pub record LearnAnswers (old : ShardView D) (batch : BatchValue) (r : Result Bool Refusal) (new : ShardView D) : Type 0 where
    pub ok : IsUp state honest old → IfOk r (λ is_known. LearnsAt state honest old batch is_known new)
    pub refused : IsUp state honest old → IfErr r (LearnRefused old batch)
    pub down : IsErrOf r Down ↔ (old.is_down ≡ true)
    pub stays : Stays old new
    pub err : IfErr r (λ e. (new ≡ old) × IsOneOf e (Down ∷ NoMemory ∷ Full ∷ Damaged ∷ []))

  -- a prepare is staged, or not
  pub record PrepareAnswers (old : ShardView D) (intent : IntentValue) (r : Result TicketValue Refusal) (new : ShardView D) : Type 0 where
    pub ok : IsUp state honest old → IfOk r (λ t. PreparesAt state honest old intent.write t new)
    pub id : IfOk r (λ t. t.id ≡ intent.write.id)
    pub refused : IsUp state honest old → IfErr r (PrepareRefused old intent.write)
    pub down : IsErrOf r Down ↔ (old.is_down ≡ true)
    pub stays : Stays old new
    pub err : IfErr r (λ e. (new ≡ old) × IsOneOf e (Down ∷ Collected ∷ Busy ∷ Precondition ∷ Full ∷ NoMemory ∷ []))

  -- a prepare is durable, or not yet, or not there
  pub record VoteAnswers (v : ShardView D) (ticket : TicketValue) (r : VoteReply) : Type 0 where
    pub yes : (vote : VoteValue) → IsUp state honest v → r ≡ Yes vote → VotesAt state v ticket vote
    pub own : (vote : VoteValue) → r ≡ Yes vote → (vote.id ≡ ticket.id) × (vote.shard ≡ v.me.node)
    pub back : (t : TicketValue) → r ≡ Later t → t ≡ ticket
    pub later : (t : TicketValue) → IsUp state honest v → r ≡ Later t → VotesLater v ticket
    pub no : (e : Refusal) → r ≡ No e → ((e ≡ Down) × (v.is_down ≡ true)) ⊎ ((e ≡ Aborted) × (IsUp state honest v → find_in_doubt ticket.id (memory v).in_doubt ≡ None))
    pub down : v.is_down ≡ true → r ≡ No Down

  -- a write that was aborted is dropped
  pub record DropAnswers (old : ShardView D) (verdict : VerdictValue) (r : Result (Unit {0}) Refusal) (new : ShardView D) : Type 0 where
    pub drops : IsUp state honest old → DropsAt state honest old verdict.id new
    pub down : IsErr r ↔ (old.is_down ≡ true)
    pub stays : Stays old new
    pub err : IfErr r (λ e. (e ≡ Down) × (new ≡ old))

  -- the ids that it has in doubt
  pub record InDoubtAnswers (v : ShardView D) (r : Result (Vec WriteId) Refusal) : Type 0 where
    pub ok : IsUp state honest v → IfOk r (λ found. DoubtsAt v found.items)
    pub down : IsErrOf r Down ↔ (v.is_down ≡ true)
    pub err : IfErr r (λ e. (e ≡ Down) ⊎ (e ≡ NoMemory))

  -- the rows of a tupleset at a place
  pub record ReadAnswers (v : ShardView D) (place : ℕ) (set : Tupleset) (r : Result ReadReply Refusal) : Type 0 where
    pub rows : (ts : Vec Tuple) → IsUp state honest v → IfOk r (λ reply. reply ≡ Rows ts → ReadsAt v place set ts.items)
    pub behind : IsUp state honest v → IfOk r (λ reply. reply ≡ Behind → (memory v).learned < place)
    pub collected : IsUp state honest v → IsErrOf r Collected ↔ (place < (memory v).horizon)
    pub down : IsErrOf r Down ↔ (v.is_down ≡ true)
    pub err : IfErr r (λ e. IsOneOf e (Down ∷ Collected ∷ NoMemory ∷ []))

  -- what a check asks of a userset, at a place
  pub record ReadForCheckAnswers (v : ShardView D) (place : ℕ) (x : Userset) (u : User) (r : Result ReadReply Refusal) : Type 0 where
    pub rows : (ts : Vec Tuple) → IsUp state honest v → IfOk r (λ reply. reply ≡ Rows ts → ReadsForCheckAt v place x u ts.items)
    pub behind : IsUp state honest v → IfOk r (λ reply. reply ≡ Behind → (memory v).learned < place)
    pub collected : IsUp state honest v → IsErrOf r Collected ↔ (place < (memory v).horizon)
    pub down : IsErrOf r Down ↔ (v.is_down ≡ true)
    pub err : IfErr r (λ e. IsOneOf e (Down ∷ Collected ∷ NoMemory ∷ []))

  -- how far it has settled
  pub record SettleAnswers (v : ShardView D) (r : Result SettledValue Refusal) : Type 0 where
    pub ok : IsUp state honest v → IfOk r (SettlesAt state v)
    pub down : IsErr r ↔ (v.is_down ≡ true)
    pub err : IfErr r (λ e. e ≡ Down)

  -- its horizon is raised to that of the coordinator, or not
  pub record CollectAnswers (old : ShardView D) (heads : HeadsValue) (r : Result (Unit {0}) Refusal) (new : ShardView D) : Type 0 where
    pub ok : IsUp state honest old → OnOk r (CollectsAt state honest old heads.horizon new)
    pub full : IsUp state honest old → IsErrOf r Full → (heads.horizon ≤ (memory old).learned) × HasNoRoom old.staged (Horizon heads.horizon)
    pub down : IsErrOf r Down ↔ (old.is_down ≡ true)
    pub stays : Stays old new
    pub err : IfErr r (λ e. (new ≡ old) × ((e ≡ Down) ⊎ (e ≡ Full)))

  -- what was staged is durable; or a device failed, and it may be so or not
  pub record FlushAnswers (moment : D → ℕ) (left_since : D → ℕ → List ℕ → Type 0) (old : ShardView D) (r : Result (Unit {0}) Refusal) (new : ShardView D) : Type 0 where
    pub still_honest : (honest old.a ↔ honest new.a) × (honest old.b ↔ honest new.b)
    pub any_moment : IsUp state honest old → LeavesBoth moment left_since old.a old.b new.a new.b (HasOldOrNew old.durable old.staged)
    pub ok : IsUp state honest old → OnOk r (FlushesAt state honest old new)
    pub me : new.me ≡ old.me
    pub counts : ((state old.a).failures ≤ (state new.a).failures) × ((state old.b).failures ≤ (state new.b).failures)
    pub down : old.is_down ≡ true → IsErr r
    pub quiet : ((old.is_down ≡ true) ⊎ (old.staged ≡ [])) → new ≡ old
    pub cause : OnErr r ((old.is_down ≡ true) ⊎ HasCause state honest (journal_of old) (journal_of new))
    pub err : IfErr r (λ e. (e ≡ Down) × (new.is_down ≡ true))

  -- as a flush, by a checkpoint that replaces all records
  pub record CheckpointAnswers (moment : D → ℕ) (left_since : D → ℕ → List ℕ → Type 0) (old : ShardView D) (r : Result (Unit {0}) Refusal) (new : ShardView D) : Type 0 where
    pub still_honest : (honest old.a ↔ honest new.a) × (honest old.b ↔ honest new.b)
    pub any_moment : IsUp state honest old → LeavesEach moment left_since old.a old.b new.a new.b (HasOldNewOrPoint old)
    pub ok : IsUp state honest old → OnOk r (ChecksPointAt state honest old new)
    pub me : new.me ≡ old.me
    pub counts : ((state old.a).failures ≤ (state new.a).failures) × ((state old.b).failures ≤ (state new.b).failures)
    pub down : old.is_down ≡ true → (r ≡ Err Down) × (new ≡ old)
    pub last : IsUp state honest old → greatest_number ≤ generation_of old.durable → new ≡ old
    pub full : IsUp state honest old → IsErrOf r Full → greatest_number ≤ generation_of old.durable
    pub cause : IsErrOf r Down → (old.is_down ≡ true) ⊎ HasPointCause state honest (journal_of old) (journal_of new)
    pub err : IfErr r (λ e. ((e ≡ Down) × (new.is_down ≡ true)) ⊎ ((new ≡ old) × ((e ≡ NoMemory) ⊎ (e ≡ Full))))
