-- A write flow as its callers see it.
use Rattle.std.specs.Prelude.{ℕ, Bool, Option, Some, None}
use Rattle.tuples.specs.Writes.{WriteValue}
use Rattle.names.specs.declared.call_name.CallName.{CallName}
use Rattle.calls.specs.declared.progress.Progress.{Progress}
use Rattle.calls.specs.declared.progress.Progress.TheVariants.{Next, Ended}
use Rattle.commit_flow.specs.WriteHolds.{WriteAwaited, WriteHolds}
use Rattle.commit_flow.specs.Views.{WriteView, view_ended}
use Rattle.commit_flow.specs.declared.end.WriteEnd.{WriteEnd}

-- Between two calls, in a store of this many shards: the write, until a call takes it; what it holds; the shard that is caught up and prepares next;
-- whether the node of its next call was flushed for it; and the name of that call.
pub record WriteFlowValue : Type 0 where
  pub shards : ℕ
  pub write : Option WriteValue
  pub holds : WriteHolds
  pub caught : Option ℕ
  pub flushed : Bool
  pub next_name : CallName

-- and while that call is out
pub record WriteCallValue : Type 0 where
  pub shards : ℕ
  pub holds : WriteHolds
  pub caught : Option ℕ
  pub flushed : Bool
  pub awaited : WriteAwaited

-- what is seen between two calls, while one is out, and after the reply
abbrev pub seen_of : WriteFlowValue → WriteView
seen_of v = record { write = v.write; holds = v.holds; caught = v.caught; flushed = v.flushed; awaited = None; ended = None }

abbrev pub seen_out : WriteCallValue → WriteView
seen_out c = record { write = None; holds = c.holds; caught = c.caught; flushed = c.flushed; awaited = Some c.awaited; ended = None }

abbrev pub seen_after : Progress WriteFlowValue WriteEnd → WriteView
seen_after (Next later) = seen_of later
seen_after (Ended end) = view_ended end
