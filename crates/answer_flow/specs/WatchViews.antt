-- What a watch is seen as.
use Rattle.std.specs.Prelude.{◌≡◌, ◌≤◌, ℕ, List, Option, Some, None}
use Rattle.refusal.specs.declared.refusal.Refusal.{Refusal}
use Rattle.tuples.specs.Watching.{Placed}
use Rattle.names.specs.declared.call_name.CallName.{CallName}
use Rattle.names.specs.declared.call_name.CallName.TheVariants as names
use Rattle.decisions.specs.Flows.{HeadsHeld, no_heads}
use Rattle.decisions.specs.Standing.{HeadsValue}
use Rattle.calls.specs.declared.progress.Progress.{Progress}
use Rattle.calls.specs.declared.progress.Progress.TheVariants.{Next, Ended}
use Rattle.answer_flow.specs.declared.watch_phase.WatchEnd as ends
use Rattle.answer_flow.specs.declared.watch_phase.WatchEnd.TheVariants as end
use Rattle.answer_flow.specs.declared.watch_phase.Ready.{Ready}
use Rattle.answer_flow.specs.declared.watch_phase.Ready.TheVariants as ready
use Rattle.answer_flow.specs.declared.watch_phase.Out.{Out}
use Rattle.answer_flow.specs.declared.watch_phase.Out.TheVariants as out

-- What a watch does next: it asks for heads, has the coordinator flushed, or fetches the decisions after its cursor. Each is a call.
pub data WatchStep : Type 0 where
  heads : WatchStep
  flush : WatchStep
  batch : WatchStep

-- what a call of it is called
abbrev pub name_of : WatchStep → CallName
name_of heads = names.Heads
name_of flush = names.Flush
name_of batch = names.Batch

-- how a watch ends: the place up to which the events are all, and these; or a refusal
pub data WatchEnding : Type 0 where
  listed : ℕ → List Placed → WatchEnding
  refused : Refusal → WatchEnding

-- What is seen of a watch: the call that comes next or is out; what it holds; whether a reply is awaited, and to which call; and how it ended.
pub record WatchView : Type 0 where
  pub next : WatchStep
  pub holds : HeadsHeld
  pub awaited : Option WatchStep
  pub ended : Option WatchEnding

-- Between two calls: of these places and namespaces, what it does next and holds.
pub record WatchFlowValue : Type 0 where
  pub cursor : ℕ
  pub limit : ℕ
  pub namespaces : List (List ℕ)
  pub next : WatchStep
  pub holds : HeadsHeld

-- and while a call is out
pub record WatchCallValue : Type 0 where
  pub cursor : ℕ
  pub limit : ℕ
  pub namespaces : List (List ℕ)
  pub awaited : WatchStep
  pub holds : HeadsHeld

-- the heads by which it found that its cursor is in the log
abbrev pub with_heads : HeadsValue → HeadsHeld
with_heads v = record { heads = Some v; batch = None }

-- between two calls
abbrev pub at_rest : WatchStep → HeadsHeld → WatchView
at_rest next holds = record { next = next; holds = holds; awaited = None; ended = None }

-- while a call is out
abbrev pub waiting : WatchStep → HeadsHeld → WatchView
waiting call holds = record { next = call; holds = holds; awaited = Some call; ended = None }

-- when it has ended
abbrev pub ended : WatchEnding → WatchView
ended end = record { next = heads; holds = no_heads; awaited = None; ended = Some end }

abbrev pub ending_of : ends.WatchEnd → WatchEnding
ending_of (end.Answered place events) = listed place events.items
ending_of (end.Refused e) = refused e

-- what is seen between two calls, while one is out, and after the reply
abbrev pub seen_of : WatchFlowValue → WatchView
seen_of v = at_rest v.next v.holds

abbrev pub seen_out : WatchCallValue → WatchView
seen_out c = waiting c.awaited c.holds

abbrev pub seen_after : Progress WatchFlowValue ends.WatchEnd → WatchView
seen_after (Next later) = seen_of later
seen_after (Ended end) = ended (ending_of end)

-- it is what was asked
abbrev pub IsAsked : ℕ → ℕ → List (List ℕ) → Progress WatchFlowValue ends.WatchEnd → Type 0
IsAsked cursor limit names (Next later) = later ≡ record { cursor = cursor; limit = limit; namespaces = names; next = later.next; holds = later.holds }
IsAsked cursor limit names (Ended end) = Unit {0}

-- what it does next, and what it holds, between two calls
abbrev pub step_ready : Ready → WatchStep
step_ready ready.Heads = heads
step_ready ready.Flush = flush
step_ready (ready.Batch v) = batch

abbrev pub holds_ready : Ready → HeadsHeld
holds_ready ready.Heads = no_heads
holds_ready ready.Flush = no_heads
holds_ready (ready.Batch v) = with_heads v

-- the call that is out
abbrev pub awaited_of : Out → WatchStep
awaited_of out.Heads = heads
awaited_of out.Flush = flush
awaited_of (out.Batch v) = batch

-- the heads that are held then
abbrev pub held_by : Out → HeadsHeld
held_by out.Heads = no_heads
held_by out.Flush = no_heads
held_by (out.Batch v) = with_heads v

-- what is seen of each
abbrev pub view_ready : Ready → WatchView
view_ready r = at_rest (step_ready r) (holds_ready r)

abbrev pub view_out : Out → WatchView
view_out o = waiting (awaited_of o) (held_by o)

abbrev pub view_of : Progress Ready ends.WatchEnd → WatchView
view_of (Next r) = view_ready r
view_of (Ended end) = ended (ending_of end)

-- by the heads that are held the cursor is kept
abbrev pub IsReadyOf : ℕ → Ready → Type 0
IsReadyOf cursor ready.Heads = Unit {0}
IsReadyOf cursor ready.Flush = Unit {0}
IsReadyOf cursor (ready.Batch v) = cursor ≤ v.kept

abbrev pub IsOutOf : ℕ → Out → Type 0
IsOutOf cursor out.Heads = Unit {0}
IsOutOf cursor out.Flush = Unit {0}
IsOutOf cursor (out.Batch v) = cursor ≤ v.kept
