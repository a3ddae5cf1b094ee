-- What each call of a shard that is up answers, and what it leaves of it.
use Rattle.std.specs.Prelude.{◌≡◌, ◌⊎◌, ◌≤◌, ◌<◌, ◌+◌, ℕ, Bool, true, false, List, [], ◌++◌, length, Some, None, Contains, is_some, ◌↔◌}
use Rattle.tuples.specs.declared.entry.Entry.{Entry}
use Rattle.tuples.specs.declared.entry.WriteId.{WriteId}
use Rattle.tuples.specs.declared.tuple.Tuple.{Tuple}
use Rattle.tuples.specs.declared.tupleset.Tupleset.{Tupleset}
use Rattle.tuples.specs.declared.object.Userset.{Userset}
use Rattle.tuples.specs.declared.user.User.{User}
use Rattle.tuples.specs.Reads.{IsSelection}
use Rattle.tuples.specs.Versions.{there_at}
use Rattle.tuples.specs.Walking.{IsCheckSelection}
use Rattle.refusal.specs.declared.refusal.Refusal.{Refusal}
use Rattle.refusal.specs.declared.refusal.Refusal.TheVariants.{Busy, Collected, Damaged, Full, NoMemory, Precondition}
use Rattle.records.specs.declared.record.Record.{Record}
use Rattle.records.specs.declared.record.Record.TheVariants.{Dropped, Horizon, Prepare}
use Rattle.records.specs.Replays.{find_in_doubt, shard_state}
use Rattle.device.specs.Device.{State, left}
use Rattle.journal.specs.Records.{Finds, HasNoRoom}
use Rattle.decisions.specs.Values.{BatchValue, SettledValue, TicketValue, VoteValue}
use Rattle.shard.specs.Shards.{AreAscendingIds, AreLearnable, AskBelow, IsBroken, IsBusy, IsDurable, IsPreparable, IsUp, ShardView, Stages, ids, learning, memory, own_part, unlearned}

-- Its part of a write is prepared: staged, and held in doubt, under a ticket of this epoch.
pub record PreparesAt {D : Type 0} (state : D → State) (honest : D → Type 0) (old : ShardView D) (w : Entry) (t : TicketValue) (new : ShardView D) : Type 0 where
  pub preparable : IsPreparable (memory old) (own_part old w)
  pub stages : Stages old (Prepare (own_part old w)) new
  pub up : IsUp state honest new
  pub id : t.id ≡ w.id
  pub epoch : t.epoch ≡ (memory old).epoch

-- Its part of a write is not prepared, each refusal if its cause is the first.
pub record PrepareRefused {D : Type 0} (old : ShardView D) (w : Entry) (e : Refusal) : Type 0 where
  pub collected : e ≡ Collected → AskBelow (memory old).horizon (own_part old w).conditions
  pub busy : e ≡ Busy → IsBusy (memory old) (own_part old w)
  pub broken : e ≡ Precondition → IsBroken (memory old) (own_part old w)
  pub full : e ≡ Full → IsPreparable (memory old) (own_part old w) × HasNoRoom old.staged (Prepare (own_part old w))
  pub memory_refused : e ≡ NoMemory → IsPreparable (memory old) (own_part old w) × (HasNoRoom old.staged (Prepare (own_part old w)) → ⊥)

-- It votes for a write: the prepare lies in whatever a stop leaves.
pub record VotesAt {D : Type 0} (state : D → State) (v : ShardView D) (t : TicketValue) (vote : VoteValue) : Type 0 where
  pub id : vote.id ≡ t.id
  pub shard : vote.shard ≡ v.me.node
  pub here : is_some (find_in_doubt t.id (memory v).in_doubt) ≡ true
  pub durable : (p : Entry) → find_in_doubt t.id (memory v).in_doubt ≡ Some p → IsDurable state v t.id p

-- It does not vote yet: the prepare is staged.
pub record VotesLater {D : Type 0} (v : ShardView D) (t : TicketValue) : Type 0 where
  pub here : is_some (find_in_doubt t.id (memory v).in_doubt) ≡ true
  pub staged : (w : Entry) × (w.id ≡ t.id) × Contains v.staged (Prepare w)

-- the batch has decisions that the shard has not learned, right after those that it has
pub record GoesOn {D : Type 0} (old : ShardView D) (b : BatchValue) : Type 0 where
  pub from : b.from ≤ (memory old).learned
  pub to : (memory old).learned < b.from + length b.writes

-- It learns a batch: all of it is known already, or the batch begins above what is known, or it goes on from there.
pub record LearnsAt {D : Type 0} (state : D → State) (honest : D → Type 0) (old : ShardView D) (b : BatchValue) (is_known : Bool) (new : ShardView D) : Type 0 where
  pub known : b.from + length b.writes ≤ (memory old).learned → (is_known ≡ true) × (new ≡ old)
  pub ahead : (memory old).learned < b.from → (is_known ≡ false) × (new ≡ old)
  pub more : GoesOn old b → (is_known ≡ true) × Stages old (learning old.me (memory old) b.from b.writes) new × IsUp state honest new
      × AreLearnable old.me (memory old) (unlearned (memory old) b.from b.writes)

-- It does not learn a batch: that goes on from what it knows.
pub record LearnRefused {D : Type 0} (old : ShardView D) (b : BatchValue) (e : Refusal) : Type 0 where
  pub unknown : b.from + length b.writes ≤ (memory old).learned → ⊥
  pub not_ahead : (memory old).learned < b.from → ⊥
  pub damaged : GoesOn old b → e ≡ Damaged ↔ (AreLearnable old.me (memory old) (unlearned (memory old) b.from b.writes) → ⊥)
  pub full : e ≡ Full → HasNoRoom old.staged (learning old.me (memory old) b.from b.writes)

-- It drops a write that was aborted, if it has it in doubt and has room to say so.
pub record DropsAt {D : Type 0} (state : D → State) (honest : D → Type 0) (old : ShardView D) (id : WriteId) (new : ShardView D) : Type 0 where
  pub dropped : is_some (find_in_doubt id (memory old).in_doubt) ≡ true → (HasNoRoom old.staged (Dropped id) → ⊥) → Stages old (Dropped id) new × IsUp state honest new
  pub not_here : find_in_doubt id (memory old).in_doubt ≡ None → new ≡ old
  pub full : HasNoRoom old.staged (Dropped id) → new ≡ old

-- It has these ids in doubt, ascending.
pub record DoubtsAt {D : Type 0} (v : ShardView D) (found : List WriteId) : Type 0 where
  pub ascending : AreAscendingIds found
  pub all : (id : WriteId) → Contains found id ↔ Contains (ids (memory v).in_doubt) id

-- It has these rows of a tupleset at a place that it has learned, not below its horizon.
pub record ReadsAt {D : Type 0} (v : ShardView D) (place : ℕ) (set : Tupleset) (rows : List Tuple) : Type 0 where
  pub learned : place ≤ (memory v).learned
  pub above : (memory v).horizon ≤ place
  pub rows_are : IsSelection (there_at (memory v).rows place) set rows

-- It has these rows of what a check asks of a userset, at a place that it has learned, not below its horizon.
pub record ReadsForCheckAt {D : Type 0} (v : ShardView D) (place : ℕ) (x : Userset) (u : User) (rows : List Tuple) : Type 0 where
  pub learned : place ≤ (memory v).learned
  pub above : (memory v).horizon ≤ place
  pub rows_are : IsCheckSelection (there_at (memory v).rows place) x u rows

-- It has settled up to a place, in whatever a stop leaves.
pub record SettlesAt {D : Type 0} (state : D → State) (v : ShardView D) (s : SettledValue) : Type 0 where
  pub shard : s.shard ≡ v.me.node
  pub place : s.place ≡ (shard_state v.durable).learned
  pub learned : (rs : List Record) → Finds (left (state v.a)) (left (state v.b)) rs → s.place ≤ (shard_state rs).learned

-- It collects up to a horizon that is above its own and that it has learned.
pub record CollectsAt {D : Type 0} (state : D → State) (honest : D → Type 0) (old : ShardView D) (horizon : ℕ) (new : ShardView D) : Type 0 where
  pub raised : (memory old).horizon < horizon → horizon ≤ (memory old).learned → Stages old (Horizon horizon) new × IsUp state honest new
  pub nothing : ((memory old).learned < horizon) ⊎ (horizon ≤ (memory old).horizon) → new ≡ old

-- what was staged is durable
pub record FlushesAt {D : Type 0} (state : D → State) (honest : D → Type 0) (old new : ShardView D) : Type 0 where
  pub up : IsUp state honest new
  pub durable : new.durable ≡ old.durable ++ old.staged
  pub staged : new.staged ≡ []
