-- What a check is seen as.
use Rattle.std.specs.Prelude.{◌≡◌, ◌<◌, ℕ, Bool, [], ◌∷◌, Option, Some, None, slice_get}
use Rattle.refusal.specs.declared.refusal.Refusal.{Refusal}
use Rattle.tuples.specs.declared.object.Userset.{Userset}
use Rattle.tuples.specs.declared.user.User.{User}
use Rattle.tuples.specs.Parts.{shard_of}
use Rattle.decisions.specs.Flows.{CheckHolds, Freshness}
use Rattle.decisions.specs.Values.{BatchValue}
use Rattle.names.specs.declared.call_name.CallName.{CallName}
use Rattle.names.specs.declared.call_name.CallName.TheVariants as names
use Rattle.calls.specs.declared.progress.Progress.{Progress}
use Rattle.calls.specs.declared.progress.Progress.TheVariants.{Next, Ended}
use Rattle.catch_up.specs.Held.{Awaited, CatchUpValue}
use Rattle.answer_flow.specs.Walking.{WalkValue}
use Rattle.answer_flow.specs.declared.check_phase.CheckDone.{CheckDone}
use Rattle.answer_flow.specs.declared.check_phase.CheckEnd as ends
use Rattle.answer_flow.specs.declared.check_phase.CheckEnd.TheVariants as end
use Rattle.answer_flow.specs.declared.check_phase.Ready.{Ready}
use Rattle.answer_flow.specs.declared.check_phase.Ready.TheVariants as ready
use Rattle.answer_flow.specs.declared.check_phase.Out.{Out}
use Rattle.answer_flow.specs.declared.check_phase.Out.TheVariants as out

-- What a check does next: it asks for heads, has the coordinator flushed, brings the shard up to the place, or has it read.
pub data CheckStep : Type 0 where
  heads : CheckStep
  flush : CheckStep
  catch_up : CheckStep
  read : CheckStep

-- the call that is out
pub data CheckAwaited : Type 0 where
  heads_call : CheckAwaited
  flush_call : CheckAwaited
  catch_up_call : Awaited → CheckAwaited
  read_call : CheckAwaited

-- how a check ends: its place, and whether the user is a member; or a refusal
pub data CheckEnding : Type 0 where
  checked : ℕ → Bool → CheckEnding
  refused : Refusal → CheckEnding

-- What is seen of a check: what it does next; what it holds; the call that is out; and how it ended.
pub record CheckView : Type 0 where
  pub next : CheckStep
  pub holds : CheckHolds
  pub awaited : Option CheckAwaited
  pub ended : Option CheckEnding

-- Between two calls: about this user, in a store of so many shards, what it does next and holds, and the name of the call that comes.
pub record CheckFlowValue : Type 0 where
  pub shards : ℕ
  pub fresh : Freshness
  pub user : User
  pub next : CheckStep
  pub holds : CheckHolds
  pub next_name : CallName

-- and while that call is out
pub record CheckCallValue : Type 0 where
  pub shards : ℕ
  pub fresh : Freshness
  pub user : User
  pub step : CheckStep
  pub awaited : CheckAwaited
  pub holds : CheckHolds

-- between two calls
abbrev pub at_rest : CheckStep → CheckHolds → CheckView
at_rest next holds = record { next = next; holds = holds; awaited = None; ended = None }

-- while a call is out
abbrev pub waiting : CheckStep → CheckAwaited → CheckHolds → CheckView
waiting step call holds = record { next = step; holds = holds; awaited = Some call; ended = None }

-- a check that has walked and waits for nothing
abbrev pub nothing_walked : CheckHolds
nothing_walked = record { heads = None; place = None; walked = []; waiting = []; batch = None }

-- a check that begins at this userset
abbrev pub begins_at : Userset → CheckHolds
begins_at y = record nothing_walked { waiting = y ∷ [] }

-- when it has ended
abbrev pub ended : CheckEnding → CheckView
ended end = record { next = heads; holds = nothing_walked; awaited = None; ended = Some end }

abbrev pub ending_of : ends.CheckEnd → CheckEnding
ending_of (end.Answered place is_member) = checked place is_member
ending_of (end.Refused e) = refused e

-- what is seen between two calls, while one is out, and after the reply
abbrev pub seen_of : CheckFlowValue → CheckView
seen_of v = at_rest v.next v.holds

abbrev pub seen_out : CheckCallValue → CheckView
seen_out c = waiting c.step c.awaited c.holds

abbrev pub seen_after : Progress CheckFlowValue CheckDone → CheckView
seen_after (Next later) = seen_of later
seen_after (Ended done) = ended (ending_of done.end)

-- it is what was asked, and gives the user back at its end
abbrev pub IsAsked : ℕ → Freshness → User → Progress CheckFlowValue CheckDone → Type 0
IsAsked shards fresh user (Next later) = later ≡ record { shards = shards; fresh = fresh; user = user; next = later.next; holds = later.holds; next_name = later.next_name }
IsAsked shards fresh user (Ended done) = done.user ≡ user

-- what was walked and what waits is held, at a place once it is found
abbrev pub holding_walk : WalkValue → Option ℕ → Option BatchValue → CheckHolds
holding_walk w place b = record { heads = None; place = place; walked = w.walked; waiting = w.waiting; batch = b }

-- what it does next, and what it holds, between two calls
abbrev pub step_ready : Ready → CheckStep
step_ready (ready.Heads w) = heads
step_ready (ready.Flush w) = flush
step_ready (ready.CatchUp place w c) = catch_up
step_ready (ready.Read place w q) = read

abbrev pub holds_ready : Ready → CheckHolds
holds_ready (ready.Heads w) = holding_walk w None None
holds_ready (ready.Flush w) = holding_walk w None None
holds_ready (ready.CatchUp place w c) = holding_walk w (Some place) c.batch
holds_ready (ready.Read place w q) = holding_walk w (Some place) None

-- and while a call is out
abbrev pub step_out : Out → CheckStep
step_out (out.Heads w) = heads
step_out (out.Flush w) = flush
step_out (out.CatchUp place w c) = catch_up
step_out (out.Read place w) = read

abbrev pub awaited_of : Out → CheckAwaited
awaited_of (out.Heads w) = heads_call
awaited_of (out.Flush w) = flush_call
awaited_of (out.CatchUp place w c) = catch_up_call c.awaited
awaited_of (out.Read place w) = read_call

abbrev pub holds_out : Out → CheckHolds
holds_out (out.Heads w) = holding_walk w None None
holds_out (out.Flush w) = holding_walk w None None
holds_out (out.CatchUp place w c) = holding_walk w (Some place) c.held.batch
holds_out (out.Read place w) = holding_walk w (Some place) None

-- what is seen of each
abbrev pub view_ready : Ready → CheckView
view_ready r = at_rest (step_ready r) (holds_ready r)

abbrev pub view_out : Out → CheckView
view_out o = waiting (step_out o) (awaited_of o) (holds_out o)

abbrev pub view_of : Progress Ready ends.CheckEnd → CheckView
view_of (Next r) = view_ready r
view_of (Ended end) = ended (ending_of end)

-- the name of its next call
abbrev pub name_ready : Ready → CallName
name_ready (ready.Heads w) = names.Heads
name_ready (ready.Flush w) = names.Flush
name_ready (ready.CatchUp place w c) = c.next
name_ready (ready.Read place w q) = names.Read

-- this one waits first
abbrev pub IsFirst : WalkValue → Userset → Type 0
IsFirst w y = slice_get w.waiting 0 ≡ Some y

-- the catch-up is that of the shard of the first that waits, to the place
pub record IsOnItsWay (shards place : ℕ) (w : WalkValue) (c : CatchUpValue) : Type 0 where
  pub first : Userset
  pub is_first : IsFirst w first
  pub shard : c.shard ≡ shard_of shards first.object
  pub there : c.shard < shards
  pub to : c.to ≡ place

-- what a check of this user keeps between two calls, and while one is out
abbrev pub IsReadyOf : ℕ → User → Ready → Type 0
IsReadyOf shards user (ready.Heads w) = Unit {0}
IsReadyOf shards user (ready.Flush w) = Unit {0}
IsReadyOf shards user (ready.CatchUp place w c) = IsOnItsWay shards place w c
IsReadyOf shards user (ready.Read place w q) = IsFirst w q.userset × (q.user ≡ user)

abbrev pub IsOutOf : ℕ → Out → Type 0
IsOutOf shards (out.Heads w) = Unit {0}
IsOutOf shards (out.Flush w) = Unit {0}
IsOutOf shards (out.CatchUp place w c) = IsOnItsWay shards place w c.held
IsOutOf shards (out.Read place w) = Unit {0}
