-- A write as it runs: the call that it asks for, the reply that it waits for, and what that makes of it.
use Rattle.std.specs.Prelude.{◌≡◌}
use Rattle.calls.specs.Flows.{IfNext}
use Rattle.calls.specs.Names.{name_of}
use Rattle.calls.specs.declared.call.NodeCall.{NodeCall}
use Rattle.calls.specs.declared.progress.Progress.{Progress}
use Rattle.calls.specs.declared.reply.Reply.{Reply}
use Rattle.commit_flow.specs.Answering.{ComesNext, Fits, GivesTo}
use Rattle.commit_flow.specs.Flows.{WriteCallValue, WriteFlowValue, seen_after, seen_of, seen_out}
use Rattle.commit_flow.specs.Writing.{Asks}
use Rattle.commit_flow.specs.declared.end.WriteEnd.{WriteEnd}

-- which call it makes, the one that is told as its next, and what it is while that is out
abbrev pub AsksWrite : WriteFlowValue → NodeCall → WriteCallValue → Type 0
AsksWrite v call out = (name_of call ≡ v.next_name) × (out.shards ≡ v.shards) × Asks v.shards (seen_of v) call (seen_out out)

-- this may be the reply to the call that is out
abbrev pub AwaitsWrite : WriteCallValue → Reply → Type 0
AwaitsWrite out reply = Fits out.shards (seen_out out) out.awaited reply

-- what the reply to the call that is out makes of it, and which call comes next
abbrev pub GivesWrite : WriteCallValue → Reply → Progress WriteFlowValue WriteEnd → Type 0
GivesWrite out reply after = IfNext after (λ later. (later.shards ≡ out.shards) × ComesNext out.awaited reply later.next_name) × GivesTo (seen_out out) out.awaited reply (seen_after after)
