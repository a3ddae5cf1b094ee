-- A prepare that is taken back.
use Rattle.std.proofs.Common.{◌≡◌, List, None, Some, ap, ◌∙◌}
use Rattle.tuples.specs.declared.entry.Entry.{Entry}
use Rattle.records.specs.declared.record.Record.TheVariants.{Dropped, Prepare}
use Rattle.records.specs.Replays.{ShardState, find_in_doubt, shard_step}
use Rattle.replay.proofs.Doubts.{find_put_same, without_put}

pub prepare_undone : (m n k : ShardState) (w : Entry) → find_in_doubt w.id m.in_doubt ≡ None → n ≡ shard_step m (Prepare w) → k ≡ shard_step n (Dropped w.id) → k ≡ m
unfolding shard_step
prepare_undone m n k w new prepared dropped =
    dropped
    ∙ ap (λ (s : ShardState). shard_step s (Dropped w.id)) prepared
    ∙ ap (λ (l : List Entry). record m { in_doubt = l }) (without_put w m.in_doubt new)

-- a write that was prepared is found
pub prepared_found : (m n : ShardState) (w : Entry) → find_in_doubt w.id m.in_doubt ≡ None → n ≡ shard_step m (Prepare w) → find_in_doubt w.id n.in_doubt ≡ Some w
unfolding shard_step
prepared_found m n w new prepared = ap (λ (s : ShardState). find_in_doubt w.id s.in_doubt) prepared ∙ find_put_same m.in_doubt w
