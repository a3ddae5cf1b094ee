-- What is answered for a shard that is not there, and to a flush of one that is.
use Rattle.std.proofs.Common.{ℕ, ◌≤◌, List, Bool, arith}
use Rattle.locked.proofs.Words.{Checkpoint, Coordinator, Entry, Flush, IsLater, IsReplyTo, Known, Notices, Refusal, Refuses, Reply, Serves, Shard, ShardCall}
use Rattle.calls.specs.declared.call.CoordinatorCall.TheVariants.{Flush as LogFlush}
use Rattle.locked.proofs.Passes.{later_self}
use Rattle.locked.proofs.RefusedCalls.{refused_is_told}

-- nothing is told then, and nothing has to be
pub absent_is_noticed : (marks : List Bool) (shards s : ℕ) (call : ShardCall) (reply : Reply) → shards ≤ s → Notices shards marks (Shard s call) reply marks
absent_is_noticed marks shards s call reply le = record { kept = λ e has. has; carried = λ lt e at. absurd (omega (arith, le, lt)) }

-- a flush tells nothing of the list
pub flush_serves : (rests : Type 0) (shards s : ℕ) (pass : Known Entry) (reply : Reply) → IsReplyTo (Shard s Flush) reply → Serves rests shards pass pass (Shard s Flush) reply
flush_serves rests shards s pass reply belongs = record {
  later = later_self pass;
  belongs = belongs;
  told = λ at. tt;
  reach = λ at. tt;
  watcher = λ at. tt;
  care = λ at. tt;
  intent = λ at. tt;
}

-- nor does a checkpoint
pub checkpoint_serves : (rests : Type 0) (shards s : ℕ) (pass : Known Entry) (reply : Reply) → IsReplyTo (Shard s Checkpoint) reply → Serves rests shards pass pass (Shard s Checkpoint) reply
checkpoint_serves rests shards s pass reply belongs = record {
  later = later_self pass;
  belongs = belongs;
  told = λ at. tt;
  reach = λ at. tt;
  watcher = λ at. tt;
  care = λ at. tt;
  intent = λ at. tt;
}

-- nor is anything told of it by what is refused of a shard that is not there
pub absent_serves : (rests : Type 0) (shards s : ℕ) (pass : Known Entry) (e : Refusal) (call : ShardCall) (reply : Reply) → Refuses e (Shard s call) reply → IsReplyTo (Shard s call) reply
    → Serves rests shards pass pass (Shard s call) reply
absent_serves rests shards s pass e call reply refuses belongs = record {
  later = later_self pass;
  belongs = belongs;
  told = λ at. refused_is_told e shards pass.seen (Shard s call) reply refuses;
  reach = λ at. tt;
  watcher = λ at. tt;
  care = λ at. tt;
  intent = λ at. tt;
}

-- a flush of the coordinator tells nothing of the list
pub log_flush_serves : (rests : Type 0) (shards : ℕ) (old new : Known Entry) (reply : Reply) → IsLater old new → IsReplyTo (Coordinator LogFlush) reply → Serves rests shards old new (Coordinator LogFlush) reply
log_flush_serves rests shards old new reply later belongs = record {
  later = later;
  belongs = belongs;
  told = λ at. tt;
  reach = λ at. tt;
  watcher = λ at. tt;
  care = λ at. tt;
  intent = λ at. tt;
}
