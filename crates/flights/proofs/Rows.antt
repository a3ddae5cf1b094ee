-- Rows of a list are those of each longer one.
use Rattle.std.proofs.Common.{◌++◌, ℕ, List, subst}
use Rattle.flights.proofs.Words.{AreRowsAround, AreRowsOf, Entry, Known, Launch, shard_state}
use Rattle.records.specs.Replays.{ShardState}
use Rattle.sides.specs.Sides.{IsLater}
use Rattle.ties.proofs.ShardOpening.{rows_longer}

rows_later : (shards s : ℕ) (st : ShardState) (old new : Known Entry) → IsLater old new → AreRowsOf shards s old.seen old.horizon st → AreRowsOf shards s new.seen new.horizon st
rows_later shards s st old new later rows =
    subst (λ (l : List Entry). AreRowsOf shards s l new.horizon st) later.seen.1 (rows_longer shards s old.seen later.seen.0 old.horizon new.horizon st later.horizon rows)

-- a pass that knows more knows them as well
pub around_later : (shards s : ℕ) (x : Launch) (old new : Known Entry) → IsLater old new → AreRowsAround shards s x old → AreRowsAround shards s x new
around_later shards s x old new later rows = record {
  without = rows_later shards s (shard_state x.durable) old new later rows.without;
  behind = rows_later shards s (shard_state (x.durable ++ x.staged)) old new later rows.behind;
}
