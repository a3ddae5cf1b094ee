-- A checkpoint leaves a shard tied, at whatever moment it stops.
use Rattle.std.proofs.Common.{◌≡◌, inl, inr, ℕ, ◌≤◌, ◌+◌, true≢false, List, ◌++◌, sym, ◌∙◌, ap, subst}
use Rattle.std.proofs.lemmas.List.{append-nil}
use Rattle.std.proofs.lemmas.Option.{same_Some}
use Rattle.ties.proofs.Words.{alike_trans, AreRowsOf, device_left, Entry, generation_of, memory, Record, ShardView, State}
use Rattle.records.specs.Replays.{IsShardImage, shard_state}
use Rattle.replay.proofs.Checkpoints.{checkpoint_of_image}
use Rattle.shard.specs.Checkpoints.{IsNextCheckpoint}
use Rattle.versions.proofs.Alike.{alike_sym}
use Rattle.ties.specs.ShardTieLaws.{FailedShardCheckpointsStayTied, ShardCheckpointsStayTied}

-- the same versions in another order are rows of the list as well
pub rows_of_point : {D : Type 0} (shards s : ℕ) (v : ShardView D) (seen : List Entry) (low : ℕ) → IsShardImage v.me (v.durable ++ v.staged) → AreRowsOf shards s seen low (memory v) → (cs : List Record) → IsNextCheckpoint v cs
    → AreRowsOf shards s seen low (shard_state cs)
rows_of_point shards s v seen low image rows cs point = subst (AreRowsOf shards s seen low) (sym stands) (record {
  learned = rows.learned;
  horizon = rows.horizon;
  within = rows.within;
  whole = rows.whole;
  rows = alike_trans (alike_sym point.alike) rows.rows;
})
  where
    stands : shard_state cs ≡ record (memory v) { rows = point.listed }
    stands = ap shard_state point.is ∙ checkpoint_of_image v.me (v.durable ++ v.staged) (generation_of v.durable + 1) point.listed image

module _ {D : Type 0} (state : D → State) (honest : D → Type 0) (store shards s : ℕ) where
  pub shard_checkpoints_stay_tied : ShardCheckpointsStayTied state honest store shards s
  shard_checkpoints_stay_tied old new seen low tied call me =
      let kept : AreRowsOf shards s seen low (shard_state new.durable) = rows_of_point shards s old seen low tied.up.image tied.now new.durable call.durable in
      let nothing : new.durable ++ new.staged ≡ new.durable = ap (λ (l : List Record). new.durable ++ l) call.staged ∙ append-nil new.durable in record {
        up = call.up;
        now = subst (λ (l : List Record). AreRowsOf shards s seen low (shard_state l)) (sym nothing) kept;
        kept = kept;
        me = me ∙ tied.me;
      }

-- Given also how often a stop may have come at a device, and what a stop since then may have left, now among it
module _ {D : Type 0} (state : D → State) (honest : D → Type 0) (moment : D → ℕ) (left_since : D → ℕ → List ℕ → Type 0)
    (counts_now : (d : D) (t : ℕ) (c : List ℕ) → honest d → t ≤ moment d → device_left (state d) c → left_since d t c) (store shards s : ℕ) where
  pub failed_shard_checkpoints_stay_tied : FailedShardCheckpointsStayTied state honest moment left_since store shards s
  failed_shard_checkpoints_stay_tied old new seen low tied me honest_a honest_b down leaves = record {
    up = λ up. absurd (true≢false (sym down ∙ up));
    anywhere = record {
      honest_a = honest_a;
      honest_b = honest_b;
      each = λ rs finds. elim (leaves.each finds.0 finds.1 (counts_now new.a (moment old.a) finds.0 honest_a leaves.later_a finds.2) (counts_now new.b (moment old.b) finds.1 honest_b leaves.later_b finds.3)) [
        | inl (inl before) ↦ of_records tied.kept (same_Some old.durable rs (sym before ∙ finds.4))
        | inl (inr after) ↦ of_records tied.now (same_Some (old.durable ++ old.staged) rs (sym after ∙ finds.4))
        | inr (cs, is, point) ↦ of_records (rows_of_point shards s old seen low tied.up.image tied.now cs point) (same_Some cs rs (sym is ∙ finds.4))
      ];
    };
    me = me ∙ tied.me;
  }
    where
      of_records : {rs cs : List Record} → AreRowsOf shards s seen low (shard_state rs) → rs ≡ cs → AreRowsOf shards s seen low (shard_state cs)
      of_records rows same = subst (λ (l : List Record). AreRowsOf shards s seen low (shard_state l)) same rows
