-- What a reply makes of a catch-up does not rest on which of its calls comes next, nor on what that one carries.
use Rattle.std.proofs.Common.{ℕ, Bool, Option, Ok, Err}
use Rattle.names.specs.declared.call_name.CallName.{CallName}
use Rattle.calls.specs.declared.reply.Reply.{Reply}
use Rattle.calls.specs.declared.reply.Reply.TheVariants.{Coordinator as from_coordinator, Shard as from_shard}
use Rattle.calls.specs.declared.reply.CoordinatorReply.TheVariants as told
use Rattle.calls.specs.declared.reply.ShardReply.TheVariants as told_by
use Rattle.catch_up.specs.CatchingUp.{Gives}
use Rattle.catch_up.specs.Held.{CatchUpCallValue}
use Rattle.catch_up.specs.declared.caught.Progress.{Progress}

pub whichever_next : (call : CatchUpCallValue) (name : CallName) (from : Option ℕ) (flushed : Bool) (reply : Reply) (progress : Progress) → Gives call reply progress
    → Gives (record { held = record call.held { next = name; from = from; flushed = flushed }; awaited = call.awaited }) reply progress
whichever_next call name from flushed (from_coordinator (told.Batch (Ok b))) progress gives = gives
whichever_next call name from flushed (from_coordinator (told.Batch (Err e))) progress gives = gives
whichever_next call name from flushed (from_coordinator reply) progress gives = absurd gives
whichever_next call name from flushed (from_shard (told_by.Learned (Ok n))) progress gives = gives
whichever_next call name from flushed (from_shard (told_by.Learned (Err e))) progress gives = gives
whichever_next call name from flushed (from_shard (told_by.Learn b (Ok k))) progress gives = gives
whichever_next call name from flushed (from_shard (told_by.Learn b (Err e))) progress gives = gives
whichever_next call name from flushed (from_shard (told_by.Flush (Ok done))) progress gives = gives
whichever_next call name from flushed (from_shard (told_by.Flush (Err e))) progress gives = gives
whichever_next call name from flushed (from_shard reply) progress gives = absurd gives
