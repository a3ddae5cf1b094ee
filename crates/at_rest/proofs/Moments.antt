-- Whatever a stop leaves of a node at some moment of a call has the list, or the rows of it.
use Rattle.std.proofs.Common.{◌≡◌, ◌≤◌, inl, inr, ℕ, List, [], ◌∷◌, ◌++◌, Some, sym, ◌∙◌, subst}
use Rattle.std.proofs.lemmas.Option.{same_Some}
use Rattle.decisions.specs.Checkpoints.{HasOldNewOrPoint, next_checkpoint}
use Rattle.decisions.specs.Coordinators.{CoordinatorView, WasLeftOrReopened, coordinator_opening, memory_of}
use Rattle.device.specs.Device.{State, left}
use Rattle.journal.specs.Records.{found}
use Rattle.laws.specs.Worlds.{coordinator_node}
use Rattle.records.specs.Identity.{Identity}
use Rattle.records.specs.declared.record.Record.{Record}
use Rattle.records.specs.Coordinators.{coordinator_state}
use Rattle.records.specs.Replays.{shard_state}
use Rattle.shard.specs.Checkpoints.{HasOldNewOrPoint as HasOldNewOrShardPoint}
use Rattle.shard.specs.Shards.{ShardView}
use Rattle.ties.specs.ShardTies.{AreRowsOf, IsShardTiedUp}
use Rattle.ties.specs.Ties.{Attempt, IsLonger, IsTiedUp}
use Rattle.ties.proofs.Opening.{durable_longer, left_longer, memory_longer}
use Rattle.ties.proofs.Points.{longer_above, point_is}
use Rattle.ties.proofs.ShardOpening.{left_rows}
use Rattle.ties.proofs.ShardPoints.{rows_of_point}
use Rattle.tuples.specs.declared.entry.Entry.{Entry}
use Rattle.at_rest.specs.RestingLaws.{AreReadable}
use Rattle.at_rest.specs.Stopped.{IsLeftOfLog, IsLeftOfShard}

-- Whatever a stop leaves of a coordinator can be read.
module _ {D : Type 0} (state : D → State) (honest : D → Type 0) (moment : D → ℕ) (left_since : D → ℕ → List ℕ → Type 0) (store shards : ℕ) (x y : List ℕ) where
  kept_reads : (old : CoordinatorView D) → HasOldNewOrPoint old x y → (rs : List Record) × (found x y ≡ Some rs)
  kept_reads old (inl (inl before)) = (old.durable, before)
  kept_reads old (inl (inr after)) = (old.durable ++ old.staged, after)
  kept_reads old (inr point) = (next_checkpoint old, point)

  opened_reads : (me : Identity) (a b : D) → AreReadable state honest a b → WasLeftOrReopened me (state a) (state b) x y → (rs : List Record) × (found x y ≡ Some rs)
  opened_reads me a b readable (inl was) = let read = readable was.0 was.1 was.2 was.3 in (read.0, was.4 ∙ read.1)
  opened_reads me a b readable (inr more) = (more.0 ++ coordinator_opening me more.0 ∷ [], more.3)

  pub log_reads : (seen : List Entry) (low : ℕ) (tried : List Attempt) → IsLeftOfLog state honest moment left_since store shards seen low tried x y → (rs : List Record) × (found x y ≡ Some rs)
  log_reads seen low tried (inl stands) = stands.tied.1 x y stands.left_a stands.left_b
  log_reads seen low tried (inr (inl keeps)) = kept_reads keeps.old (keeps.within.each x y keeps.within.left_a keeps.within.left_b)
  log_reads seen low tried (inr (inr opens)) = opened_reads (coordinator_node store shards) opens.a opens.b opens.tied.1 (opens.within.each x y opens.within.left_a opens.within.left_b)

module _ {D : Type 0} (state : D → State) (honest : D → Type 0) (moment : D → ℕ) (left_since : D → ℕ → List ℕ → Type 0)
    (counts_now : (d : D) (t : ℕ) (c : List ℕ) → honest d → t ≤ moment d → left (state d) c → left_since d t c) (store shards : ℕ) (x y : List ℕ) (rs : List Record) (is : found x y ≡ Some rs) (seen : List Entry) (low : ℕ) where
  log_of : (tried : List Attempt) (old : CoordinatorView D) → IsTiedUp state honest old seen low tried → HasOldNewOrPoint old x y → IsLonger seen low tried (coordinator_state rs)
  log_of tried old tied (inl (inl before)) = subst (λ (l : List Record). IsLonger seen low tried (coordinator_state l)) (same_Some old.durable rs (sym before ∙ is))
      (durable_longer state honest old seen low tried tied)
  log_of tried old tied (inl (inr after)) = subst (λ (l : List Record). IsLonger seen low tried (coordinator_state l)) (same_Some (old.durable ++ old.staged) rs (sym after ∙ is))
      (memory_longer state honest old seen low tried tied)
  log_of tried old tied (inr point) = subst (λ (l : List Record). IsLonger seen low tried (coordinator_state l)) (same_Some (next_checkpoint old) rs (sym point ∙ is))
      (subst (IsLonger seen low tried) (sym (point_is old)) (longer_above seen low tried (memory_of old) (memory_longer state honest old seen low tried tied)))

  pub log_is_longer : (tried : List Attempt) → IsLeftOfLog state honest moment left_since store shards seen low tried x y → IsLonger seen low tried (coordinator_state rs)
  log_is_longer tried (inl stands) = stands.tied.0.each rs (x, y, stands.left_a, stands.left_b, is)
  log_is_longer tried (inr (inl keeps)) = log_of tried keeps.old keeps.tied (keeps.within.each x y keeps.within.left_a keeps.within.left_b)
  log_is_longer tried (inr (inr opens)) = left_longer state honest moment left_since counts_now store shards opens.a opens.b seen low tried opens.tied.0 opens.reads_a opens.reads_b x y rs is
      (opens.within.each x y opens.within.left_a opens.within.left_b)

  rows_of : (s : ℕ) (old : ShardView D) → IsShardTiedUp state honest store shards s old seen low → HasOldNewOrShardPoint old x y → AreRowsOf shards s seen low (shard_state rs)
  rows_of s old tied (inl (inl before)) = subst (λ (l : List Record). AreRowsOf shards s seen low (shard_state l)) (same_Some old.durable rs (sym before ∙ is)) tied.kept
  rows_of s old tied (inl (inr after)) = subst (λ (l : List Record). AreRowsOf shards s seen low (shard_state l)) (same_Some (old.durable ++ old.staged) rs (sym after ∙ is)) tied.now
  rows_of s old tied (inr (cs, has, point)) = subst (λ (l : List Record). AreRowsOf shards s seen low (shard_state l)) (same_Some cs rs (sym has ∙ is))
      (rows_of_point shards s old seen low tied.up.image tied.now cs point)

  pub shard_has_rows : (s : ℕ) → IsLeftOfShard state honest moment left_since store shards s seen low x y → AreRowsOf shards s seen low (shard_state rs)
  shard_has_rows s (inl stands) = stands.tied.each rs (x, y, stands.left_a, stands.left_b, is)
  shard_has_rows s (inr (inl keeps)) = rows_of s keeps.old keeps.tied (keeps.within.each x y keeps.within.left_a keeps.within.left_b)
  shard_has_rows s (inr (inr opens)) = left_rows state honest moment left_since counts_now store shards s opens.a opens.b seen low opens.tied opens.reads_a opens.reads_b x y rs is
      (opens.within.each x y opens.within.left_a opens.within.left_b)
