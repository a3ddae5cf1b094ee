-- Any care, as the flow that it is.
use Rattle.std.specs.Prelude.{◌≡◌, ◌<◌, ℕ, Bool, true, false, [], Option, Some, None, is_some, option_map}
use Rattle.decisions.specs.Flows.{no_heads, nothing_raised}
use Rattle.calls.specs.Asking.{MayBeMade}
use Rattle.calls.specs.Names.{name_of}
use Rattle.calls.specs.declared.call.NodeCall.{NodeCall}
use Rattle.calls.specs.declared.progress.Progress.{Progress}
use Rattle.calls.specs.declared.progress.Progress.TheVariants.{Next, Ended}
use Rattle.names.specs.declared.call_name.CallName.{CallName}
use Rattle.names.specs.declared.call_name.CallName.TheVariants as names
use Rattle.calls.specs.declared.reply.Reply.{Reply}
use Rattle.care_flow.specs.declared.end.CareEnd.{CareEnd}
use Rattle.names.specs.declared.care.Care.{Care}
use Rattle.names.specs.declared.care.Care.TheVariants as cares
use Rattle.care_flow.specs.declared.care.CareFlow.{CareFlow}
use Rattle.care_flow.specs.declared.care.CareFlow.TheVariants.{Flush, Learn, Resolve, Raise, Collect}
use Rattle.care_flow.specs.declared.care.CareCall.{CareCall}
use Rattle.care_flow.specs.declared.care.CareCall.TheVariants as outs
use Rattle.care_flow.specs.Flushing as flushing
use Rattle.care_flow.specs.Learning as learning
use Rattle.care_flow.specs.Resolving as resolving
use Rattle.care_flow.specs.Raising as raising
use Rattle.care_flow.specs.Collecting as collecting
use Rattle.care_flow.specs.Views.{GoesOrEnds, ready}

-- the flow before its first call
abbrev pub begun : ℕ → Care → CareFlow
begun shards (cares.Flush node) = Flush (record { node = node; is_checkpoint = false; seen = ready tt flushing.flush })
begun shards (cares.Checkpoint node) = Flush (record { node = node; is_checkpoint = true; seen = ready tt flushing.flush })
begun shards (cares.Learn s) = Learn (record { shard = s; seen = ready no_heads learning.ask; next_name = Some names.Heads })
begun shards (cares.Resolve s) = Resolve (record { shard = s; doubts = []; seen = ready resolving.nothing_found resolving.in_doubt; next_name = Some names.InDoubt })
begun shards (cares.Raise place) = Raise (record { shards = shards; place = place; seen = ready nothing_raised raising.ask; next_name = Some names.Heads })
begun shards (cares.Collect s) = Collect (record { shard = s; seen = ready no_heads collecting.ask })

-- the node that is cared for is there in a store of this many shards, and a raise is for that many
abbrev pub IsThere : ℕ → CareFlow → Type 0
IsThere shards (Flush v) = flushing.IsThere shards v.node
IsThere shards (Learn v) = v.shard < shards
IsThere shards (Resolve v) = v.shard < shards
IsThere shards (Raise v) = v.shards ≡ shards
IsThere shards (Collect v) = v.shard < shards

-- the name of its next call, if there is one
abbrev pub next_name_of : CareFlow → Option CallName
next_name_of (Flush v) = option_map (flushing.name_of v.is_checkpoint) v.seen.next
next_name_of (Learn v) = v.next_name
next_name_of (Resolve v) = v.next_name
next_name_of (Raise v) = v.next_name
next_name_of (Collect v) = option_map collecting.name_of v.seen.next

-- whether a call comes next: it has not ended, and none is out
abbrev pub has_next : CareFlow → Bool
has_next (Flush v) = is_some v.seen.next
has_next (Learn v) = is_some v.seen.next
has_next (Resolve v) = is_some v.seen.next
has_next (Raise v) = is_some v.seen.next
has_next (Collect v) = is_some v.seen.next

-- Its next call, if there is one.
abbrev pub NextCall : CareFlow → Option NodeCall → CareFlow → Type 0
NextCall (Flush old) call (Flush new) = (new.node ≡ old.node) × (new.is_checkpoint ≡ old.is_checkpoint) × flushing.NextCall old call new
NextCall (Learn old) call (Learn new) = (new.shard ≡ old.shard) × learning.NextCall old call new
NextCall (Resolve old) call (Resolve new) = (new.shard ≡ old.shard) × (new.doubts ≡ old.doubts) × resolving.NextCall old call new
NextCall (Raise old) call (Raise new) = (new.shards ≡ old.shards) × (new.place ≡ old.place) × raising.NextCall old call new
NextCall (Collect old) call (Collect new) = (new.shard ≡ old.shard) × collecting.NextCall old call new
NextCall old call new = ⊥

-- It waits for such a reply.
abbrev pub Awaits : CareFlow → Reply → Type 0
Awaits (Flush v) reply = flushing.Awaits v reply
Awaits (Learn v) reply = learning.Awaits v reply
Awaits (Resolve v) reply = resolving.Awaits v reply
Awaits (Raise v) reply = raising.Awaits v reply
Awaits (Collect v) reply = collecting.Awaits v reply

-- What the reply makes of it.
abbrev pub Answered : CareFlow → Reply → CareFlow → Type 0
Answered (Flush old) reply (Flush new) = (new.node ≡ old.node) × (new.is_checkpoint ≡ old.is_checkpoint) × flushing.Answered old reply new
Answered (Learn old) reply (Learn new) = (new.shard ≡ old.shard) × learning.Answered old reply new
Answered (Resolve old) reply (Resolve new) = (new.shard ≡ old.shard) × resolving.Answered old reply new
Answered (Raise old) reply (Raise new) = (new.shards ≡ old.shards) × (new.place ≡ old.place) × raising.Answered old reply new
Answered (Collect old) reply (Collect new) = (new.shard ≡ old.shard) × collecting.Answered old reply new
Answered old reply new = ⊥

-- how it ended
abbrev pub end_of : CareFlow → Option CareEnd
end_of (Flush v) = v.seen.ended
end_of (Learn v) = v.seen.ended
end_of (Resolve v) = v.seen.ended
end_of (Raise v) = v.seen.ended
end_of (Collect v) = v.seen.ended

-- which call it makes, the one named as its next, and what it is while that is out; the node that it asks may be asked that
abbrev pub AsksCare : CareFlow → NodeCall → CareFlow → Type 0
AsksCare old call out = (next_name_of old ≡ Some (name_of call)) × NextCall old (Some call) out × ((shards : ℕ) → IsThere shards old → MayBeMade shards call)

-- What the reply makes of it; after it none is out.
abbrev pub GivesCare : CareFlow → Reply → CareFlow → Type 0
GivesCare out reply later = Answered out reply later × GoesOrEnds (has_next later) (end_of later)

-- a resolution reports on each write that was in doubt, in their order
abbrev pub TellsOfEach : CareFlow → Option CareEnd → Type 0
TellsOfEach (Resolve v) (Some end) = resolving.TellsOfEach v.doubts end
TellsOfEach flow end = Unit {0}

-- its next call has this name
abbrev pub Names : CareFlow → CallName → Type 0
Names v name = (next_name_of v ≡ Some name) × (has_next v ≡ true)

-- what is seen of it while its call is out
abbrev pub while_out : CareCall → CareFlow
while_out (outs.Flush v) = Flush v
while_out (outs.Learn v) = Learn v
while_out (outs.Resolve v) = Resolve v
while_out (outs.Raise v) = Raise v
while_out (outs.Collect v) = Collect v

-- it has ended so
pub record HasEnded (last : CareFlow) (end : CareEnd) : Type 0 where
  pub unnamed : next_name_of last ≡ None
  pub over : has_next last ≡ false
  pub end_is : end_of last ≡ Some end
  pub each : TellsOfEach last (Some end)

-- What is left of it: it waits for its next turn, or has ended.
abbrev pub MakesCare : CareCall → Reply → Progress CareFlow CareEnd → Type 0
MakesCare call reply (Next later) = GivesCare (while_out call) reply later
MakesCare call reply (Ended end) = (last : CareFlow) × GivesCare (while_out call) reply last × HasEnded last end
