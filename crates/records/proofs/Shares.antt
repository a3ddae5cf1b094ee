-- A shard's part of a write has no more changes and conditions than the write.
use Rattle.std.proofs.Common.{◌≤◌, ℕ, length}
use Rattle.tuples.specs.declared.change.Change.{Change}
use Rattle.tuples.specs.declared.change.Condition.{Condition}
use Rattle.tuples.specs.declared.entry.Entry.{Entry}
use Rattle.tuples.specs.Changes.{tuple_of}
use Rattle.tuples.specs.Parts.{is_of, part}
use Rattle.tuples.proofs.Kept.{fewer_filtered}

module _ (shards s : ℕ) (w : Entry) (most : ℕ) where
  pub few_changes : length w.changes ≤ most → length (part shards s w).changes ≤ most
  unfolding part
  few_changes few = fewer_filtered (λ (c : Change). is_of shards s (tuple_of c)) w.changes most few

  pub few_conditions : length w.conditions ≤ most → length (part shards s w).conditions ≤ most
  unfolding part
  few_conditions few = fewer_filtered (λ (c : Condition). is_of shards s c.tuple) w.conditions most few
