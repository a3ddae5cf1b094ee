-- The reply to a read carries the refusal that it was answered.
use Rattle.std.proofs.Common.{◌≡◌, true, Result, Err, Some, ap}
use Rattle.refusal.specs.declared.refusal.Refusal.{Refusal}
use Rattle.shard.specs.declared.replies.ReadReply.{ReadReply}
use Rattle.calls.specs.Reading.{is_read, read_reply}
use Rattle.calls.specs.Refusing.{error_of, shard_error}
use Rattle.calls.specs.declared.call.ShardCall.{ShardCall}
use Rattle.calls.specs.declared.call.ShardCall.TheVariants.{Read, ReadForCheck}

pub read_error : (call : ShardCall) (r : Result ReadReply Refusal) (e : Refusal) → is_read call ≡ true → r ≡ Err e → shard_error (read_reply call r) ≡ Some e
read_error (Read place set) r e reads is = ap error_of is
read_error (ReadForCheck place x u) r e reads is = ap error_of is
read_error call r e reads is = absurd cc
