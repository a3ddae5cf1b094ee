-- Whatever a write flow asks is a turn of it.
use Rattle.std.proofs.Common.{◌≤◌, ℕ, List}
use Rattle.flow_turns.proofs.WriteWords.{Coordinator, State, left}
use Rattle.calls.specs.declared.call.NodeCall.TheVariants.{Shard}
use Rattle.calls.specs.declared.call.CoordinatorCall.TheVariants as coordinator_calls
use Rattle.calls.specs.declared.call.ShardCall.TheVariants as shard_calls
use Rattle.flow_turns.specs.WriteTurns.{AllTurn}
use Rattle.flow_turns.proofs.Beginning.{begins_turn}
use Rattle.flow_turns.proofs.Catching.{learned_turns}
use Rattle.flow_turns.proofs.Deciding.{decides_turn}
use Rattle.flow_turns.proofs.Flushing.{coordinator_flush_turns, shard_flush_turns}
use Rattle.flow_turns.proofs.Learning.{batch_turns, learn_turns}
use Rattle.flow_turns.proofs.Leaving.{aborts_turn, drops_turn, inquiries_turn}
use Rattle.flow_turns.proofs.Outcome.{outcome_turns}
use Rattle.flow_turns.proofs.Preparing.{prepares_turn}
use Rattle.flow_turns.proofs.Voting.{vote_turns}

module _ {D : Type 0} (state : D → State) (honest : D → Type 0) (moment : D → ℕ) (left_since : D → ℕ → List ℕ → Type 0)
    (counts_now : (d : D) (t : ℕ) (c : List ℕ) → honest d → t ≤ moment d → left (state d) c → left_since d t c) (only_now : (d : D) (c : List ℕ) → honest d → left_since d (moment d) c → left (state d) c)
    (store shards : ℕ) where
  pub all_turn : AllTurn state honest moment left_since store shards
  all_turn (Coordinator (coordinator_calls.Begin write)) old new slot is_cancelled v later makes = begins_turn state honest moment left_since counts_now only_now store shards write old new slot is_cancelled v later makes
  all_turn (Coordinator coordinator_calls.Heads) old new slot is_cancelled v later makes = absurd makes.asks.1
  all_turn (Coordinator (coordinator_calls.Batch from to)) old new slot is_cancelled v later makes = batch_turns state honest moment left_since counts_now only_now store shards from to old new slot is_cancelled v later makes
  all_turn (Coordinator (coordinator_calls.Decide intent votes)) old new slot is_cancelled v later makes = decides_turn state honest moment left_since counts_now only_now store shards intent votes old new slot is_cancelled v later makes
  all_turn (Coordinator (coordinator_calls.Outcome d)) old new slot is_cancelled v later makes = outcome_turns state honest moment left_since counts_now only_now store shards d old new slot is_cancelled v later makes
  all_turn (Coordinator (coordinator_calls.Abort intent)) old new slot is_cancelled v later makes = aborts_turn state honest moment left_since counts_now only_now store shards intent old new slot is_cancelled v later makes
  all_turn (Coordinator (coordinator_calls.Inquire id)) old new slot is_cancelled v later makes = inquiries_turn state honest moment left_since counts_now only_now store shards id old new slot is_cancelled v later makes
  all_turn (Coordinator (coordinator_calls.Raise place settled)) old new slot is_cancelled v later makes = absurd makes.asks.1
  all_turn (Coordinator coordinator_calls.Checkpoint) old new slot is_cancelled v later makes = absurd makes.asks.1
  all_turn (Coordinator coordinator_calls.Flush) old new slot is_cancelled v later makes = coordinator_flush_turns state honest moment left_since counts_now only_now store shards old new slot is_cancelled v later makes
  all_turn (Shard s shard_calls.Learned) old new slot is_cancelled v later makes = learned_turns state honest moment left_since counts_now only_now store shards s old new slot is_cancelled v later makes
  all_turn (Shard s (shard_calls.Learn batch)) old new slot is_cancelled v later makes = learn_turns state honest moment left_since counts_now only_now store shards s batch old new slot is_cancelled v later makes
  all_turn (Shard s (shard_calls.StagePrepare intent)) old new slot is_cancelled v later makes = prepares_turn state honest moment left_since counts_now only_now store shards s intent old new slot is_cancelled v later makes
  all_turn (Shard s (shard_calls.Vote ticket)) old new slot is_cancelled v later makes = vote_turns state honest moment left_since counts_now only_now store shards s ticket old new slot is_cancelled v later makes
  all_turn (Shard s (shard_calls.DropWrite verdict held)) old new slot is_cancelled v later makes = drops_turn state honest moment left_since counts_now only_now store shards s verdict held old new slot is_cancelled v later makes
  all_turn (Shard s shard_calls.InDoubt) old new slot is_cancelled v later makes = absurd makes.asks.1
  all_turn (Shard s (shard_calls.Read place set)) old new slot is_cancelled v later makes = absurd makes.asks.1
  all_turn (Shard s (shard_calls.ReadForCheck place x u)) old new slot is_cancelled v later makes = absurd makes.asks.1
  all_turn (Shard s shard_calls.Settle) old new slot is_cancelled v later makes = absurd makes.asks.1
  all_turn (Shard s (shard_calls.Collect heads)) old new slot is_cancelled v later makes = absurd makes.asks.1
  all_turn (Shard s shard_calls.Checkpoint) old new slot is_cancelled v later makes = absurd makes.asks.1
  all_turn (Shard s shard_calls.Flush) old new slot is_cancelled v later makes = shard_flush_turns state honest moment left_since counts_now only_now store shards s old new slot is_cancelled v later makes
