-- A prepare is staged at a shard, or dropped, of a write that the log does not list.
use Rattle.std.proofs.Common.{◌≡◌, ℕ, List, sym, ◌∙◌}
use Rattle.laws.proofs.Words.{Dropped, Entry, IsUnlisted, Prepare, ShardMeans, ShardState, WriteId, find_put}
use Rattle.records.specs.Replays.{shard_step}
use Rattle.replay.proofs.Doubts.{find_without_other}

module _ (shards s : ℕ) (log : List Entry) (hc h : ℕ) (state : ShardState) (id : WriteId) (unlisted : IsUnlisted id log) (m : ShardMeans shards s log hc h state) where
  pub prepared_means : (p : Entry) → p.id ≡ id → ShardMeans shards s log hc h (shard_step state (Prepare p))
  unfolding shard_step
  prepared_means p is_id = record {
    learned = m.learned;
    horizon = m.horizon;
    rows = m.rows;
    settled = m.settled;
    in_doubt = record {
      above = λ j w is le. find_put w.id state.in_doubt p (λ same. unlisted j w is (sym is_id ∙ same)) ∙ m.in_doubt.above j w is le;
      below = λ j w is lt. find_put w.id state.in_doubt p (λ same. unlisted j w is (sym is_id ∙ same)) ∙ m.in_doubt.below j w is lt;
    };
  }

  pub dropped_means : ShardMeans shards s log hc h (shard_step state (Dropped id))
  unfolding shard_step
  dropped_means = record {
    learned = m.learned;
    horizon = m.horizon;
    rows = m.rows;
    settled = m.settled;
    in_doubt = record {
      above = λ j w is le. find_without_other w.id id state.in_doubt (λ same. unlisted j w is (sym same)) ∙ m.in_doubt.above j w is le;
      below = λ j w is lt. find_without_other w.id id state.in_doubt (λ same. unlisted j w is (sym same)) ∙ m.in_doubt.below j w is lt;
    };
  }
