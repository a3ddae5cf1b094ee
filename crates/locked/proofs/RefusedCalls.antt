-- What is refused tells nothing.
use Rattle.std.proofs.Common.{ℕ, List, Ok}
use Rattle.locked.proofs.Words.{Coordinator, Entry, from_coordinator, IsTold, NodeCall, Refusal, Refuses, Reply, Shard}
use Rattle.calls.specs.declared.call.CoordinatorCall.TheVariants as calls
use Rattle.calls.specs.declared.call.ShardCall.TheVariants as shard_calls
use Rattle.calls.specs.declared.reply.Reply.TheVariants.{Shard as from_shard}
use Rattle.calls.specs.declared.reply.CoordinatorReply.TheVariants as told
use Rattle.calls.specs.declared.reply.ShardReply.TheVariants as told_by

pub refused_is_told : (e : Refusal) (shards : ℕ) (seen : List Entry) (call : NodeCall) (reply : Reply) → Refuses e call reply → IsTold shards seen call reply
refused_is_told e shards seen (Coordinator calls.Heads) (from_coordinator (told.Heads (Ok h))) refuses = absurd (cc refuses)
refused_is_told e shards seen (Coordinator (calls.Batch from to)) (from_coordinator (told.Batch (Ok b))) refuses = absurd (cc refuses)
refused_is_told e shards seen (Shard s (shard_calls.Read place set)) (from_shard (told_by.Read back (Ok rows))) refuses = absurd (cc refuses.1)
refused_is_told e shards seen (Shard s (shard_calls.ReadForCheck place x u)) (from_shard (told_by.ReadForCheck back_x back_u (Ok rows))) refuses = absurd (cc refuses.2)
refused_is_told e shards seen call reply refuses = tt
