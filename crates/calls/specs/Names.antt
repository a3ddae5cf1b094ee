-- Which node a call is for, and which call it is.
use Rattle.names.specs.declared.node_name.NodeName.{NodeName}
use Rattle.names.specs.declared.node_name.NodeName.TheVariants.{Coordinator, Shard}
use Rattle.calls.specs.declared.call.NodeCall.{NodeCall}
use Rattle.calls.specs.declared.call.NodeCall.TheVariants.{Coordinator as of_coordinator, Shard as of_shard}
use Rattle.calls.specs.declared.call.CoordinatorCall.{CoordinatorCall}
use Rattle.calls.specs.declared.call.CoordinatorCall.TheVariants as coordinator_calls
use Rattle.calls.specs.declared.call.ShardCall.{ShardCall}
use Rattle.calls.specs.declared.call.ShardCall.TheVariants as shard_calls
use Rattle.names.specs.declared.call_name.CallName.{CallName}
use Rattle.names.specs.declared.call_name.CallName.TheVariants as names

-- the node that is called
abbrev pub node_of : NodeCall → NodeName
node_of (of_coordinator call) = Coordinator
node_of (of_shard s call) = Shard s

-- the name of a call of the coordinator
abbrev pub name_at_coordinator : CoordinatorCall → CallName
name_at_coordinator (coordinator_calls.Begin write) = names.Begin
name_at_coordinator coordinator_calls.Heads = names.Heads
name_at_coordinator (coordinator_calls.Batch from to) = names.Batch
name_at_coordinator (coordinator_calls.Decide intent votes) = names.Decide
name_at_coordinator (coordinator_calls.Outcome decided) = names.Outcome
name_at_coordinator (coordinator_calls.Abort intent) = names.Abort
name_at_coordinator (coordinator_calls.Inquire id) = names.Inquire
name_at_coordinator (coordinator_calls.Raise place settled) = names.Raise
name_at_coordinator coordinator_calls.Flush = names.Flush
name_at_coordinator coordinator_calls.Checkpoint = names.Checkpoint

-- the name of a call of a shard
abbrev pub name_at_shard : ShardCall → CallName
name_at_shard shard_calls.Learned = names.Learned
name_at_shard (shard_calls.Learn batch) = names.Learn
name_at_shard (shard_calls.StagePrepare intent) = names.StagePrepare
name_at_shard (shard_calls.Vote ticket) = names.Vote
name_at_shard (shard_calls.DropWrite verdict held) = names.DropWrite
name_at_shard shard_calls.InDoubt = names.InDoubt
name_at_shard (shard_calls.Read place set) = names.Read
name_at_shard (shard_calls.ReadForCheck place x u) = names.Read
name_at_shard shard_calls.Settle = names.Settle
name_at_shard (shard_calls.Collect heads) = names.Collect
name_at_shard shard_calls.Flush = names.Flush
name_at_shard shard_calls.Checkpoint = names.Checkpoint

-- the name of a call, at whichever node
abbrev pub name_of : NodeCall → CallName
name_of (of_coordinator call) = name_at_coordinator call
name_of (of_shard s call) = name_at_shard call
