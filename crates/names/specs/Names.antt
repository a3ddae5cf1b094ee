-- What calls are called.
use Rattle.std.specs.Prelude.{ℕ, List, codes}
use Rattle.names.specs.declared.call_name.CallName.{CallName}
use Rattle.names.specs.declared.call_name.CallName.TheVariants as call

-- the text of a name
abbrev pub call_text : CallName → List ℕ
call_text call.Begin = codes "begin"
call_text call.Heads = codes "heads"
call_text call.Learned = codes "learned"
call_text call.Batch = codes "batch"
call_text call.Learn = codes "learn"
call_text call.StagePrepare = codes "stage_prepare"
call_text call.Flush = codes "flush"
call_text call.Vote = codes "vote"
call_text call.Decide = codes "decide"
call_text call.Outcome = codes "outcome"
call_text call.Abort = codes "abort"
call_text call.DropWrite = codes "drop_write"
call_text call.Inquire = codes "inquire"
call_text call.InDoubt = codes "in_doubt"
call_text call.Read = codes "read"
call_text call.Settle = codes "settle"
call_text call.Raise = codes "raise"
call_text call.Collect = codes "collect"
call_text call.Checkpoint = codes "checkpoint"
