-- Which calls leave a node as it is, and what is replied to them.
use Rattle.std.specs.Prelude.{Bool, true, false, Result, Err}
use Rattle.refusal.specs.declared.refusal.Refusal.{Refusal}
use Rattle.refusal.specs.declared.refusal.Refusal.TheVariants.{Damaged}
use Rattle.shard.specs.declared.replies.ReadReply.{ReadReply}
use Rattle.calls.specs.declared.call.ShardCall.{ShardCall}
use Rattle.calls.specs.declared.call.ShardCall.TheVariants.{Read, ReadForCheck}
use Rattle.calls.specs.declared.reply.ShardReply.{ShardReply}
use Rattle.calls.specs.declared.reply.ShardReply.TheVariants as told_by

-- a call that reads tuples of a shard, beside others
abbrev pub is_read : ShardCall → Bool
is_read (Read place set) = true
is_read (ReadForCheck place x u) = true
is_read call = false

-- the reply to a read that was answered so; it says nothing of other calls
abbrev pub read_reply : ShardCall → Result ReadReply Refusal → ShardReply
read_reply (Read place set) answer = told_by.Read set answer
read_reply (ReadForCheck place x u) answer = told_by.ReadForCheck x u answer
read_reply call answer = told_by.Flush (Err Damaged)
