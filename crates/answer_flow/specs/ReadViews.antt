-- What a read is seen as.
use Rattle.std.specs.Prelude.{◌≡◌, ◌<◌, ℕ, List, length, map, Option, Some, None, slice_get}
use Rattle.refusal.specs.declared.refusal.Refusal.{Refusal}
use Rattle.std.specs.Global.{Vec}
use Rattle.tuples.specs.declared.tuple.Tuple.{Tuple}
use Rattle.tuples.specs.declared.tupleset.Tupleset.{Tupleset}
use Rattle.tuples.specs.declared.tupleset.Tupleset.TheVariants.{Key, OfObject, OfUser}
use Rattle.tuples.specs.Parts.{shard_of}
use Rattle.decisions.specs.Flows.{Freshness, ReadHolds, nothing_read}
use Rattle.decisions.specs.Values.{BatchValue}
use Rattle.names.specs.declared.call_name.CallName.{CallName}
use Rattle.names.specs.declared.call_name.CallName.TheVariants as names
use Rattle.calls.specs.declared.progress.Progress.{Progress}
use Rattle.calls.specs.declared.progress.Progress.TheVariants.{Next, Ended}
use Rattle.catch_up.specs.Held.{Awaited, CatchUpValue}
use Rattle.answer_flow.specs.declared.read_phase.Gathered.{Gathered}
use Rattle.answer_flow.specs.declared.read_phase.ReadDone.{ReadDone}
use Rattle.answer_flow.specs.declared.read_phase.ReadEnd as ends
use Rattle.answer_flow.specs.declared.read_phase.ReadEnd.TheVariants as end
use Rattle.answer_flow.specs.declared.read_phase.Ready.{Ready}
use Rattle.answer_flow.specs.declared.read_phase.Ready.TheVariants as ready
use Rattle.answer_flow.specs.declared.read_phase.Out.{Out}
use Rattle.answer_flow.specs.declared.read_phase.Out.TheVariants as out

-- What a read does next: it asks for heads, has the coordinator flushed, brings the shard up to the place, or has it read.
pub data ReadStep : Type 0 where
  heads : ReadStep
  flush : ReadStep
  catch_up : ReadStep
  read : ReadStep

-- the call that is out
pub data ReadAwaited : Type 0 where
  heads_call : ReadAwaited
  flush_call : ReadAwaited
  catch_up_call : Awaited → ReadAwaited
  read_call : ReadAwaited

-- how a read ends: its place, and the rows of each tupleset; or a refusal
pub data ReadEnding : Type 0 where
  selected : ℕ → List (List Tuple) → ReadEnding
  refused : Refusal → ReadEnding

-- What is seen of a read: what it does next; what it holds; the call that is out; and how it ended.
pub record ReadView : Type 0 where
  pub next : ReadStep
  pub holds : ReadHolds
  pub awaited : Option ReadAwaited
  pub ended : Option ReadEnding

-- Between two calls: of these tuplesets, in a store of so many shards, what it does next and holds, and the name of the call that comes.
pub record ReadFlowValue : Type 0 where
  pub shards : ℕ
  pub fresh : Freshness
  pub sets : List Tupleset
  pub next : ReadStep
  pub holds : ReadHolds
  pub next_name : CallName

-- and while that call is out
pub record ReadCallValue : Type 0 where
  pub shards : ℕ
  pub fresh : Freshness
  pub sets : List Tupleset
  pub step : ReadStep
  pub awaited : ReadAwaited
  pub holds : ReadHolds

-- the shard that a tupleset asks, if those below a number are done: that of its object, or the next one
abbrev pub shard_for : ℕ → Tupleset → ℕ → ℕ
shard_for shards (Key t) below = shard_of shards t.object
shard_for shards (OfObject o relation) below = shard_of shards o
shard_for shards (OfUser n u relation) below = below

-- all shards are asked for the tupleset
abbrev pub IsOfUser : Tupleset → Type 0
IsOfUser (Key t) = ⊥
IsOfUser (OfObject o relation) = ⊥
IsOfUser (OfUser n u relation) = Unit {0}

-- between two calls
abbrev pub at_rest : ReadStep → ReadHolds → ReadView
at_rest next holds = record { next = next; holds = holds; awaited = None; ended = None }

-- while a call is out
abbrev pub waiting : ReadStep → ReadAwaited → ReadHolds → ReadView
waiting step call holds = record { next = step; holds = holds; awaited = Some call; ended = None }

-- when it has ended
abbrev pub ended : ReadEnding → ReadView
ended end = record { next = heads; holds = nothing_read; awaited = None; ended = Some end }

abbrev pub rows_of : List (Vec Tuple) → List (List Tuple)
rows_of = map (λ (rows : Vec Tuple). rows.items)

abbrev pub ending_of : ends.ReadEnd → ReadEnding
ending_of (end.Answered place done) = selected place (rows_of done.items)
ending_of (end.Refused e) = refused e

-- what is seen between two calls, while one is out, and after the reply
abbrev pub seen_of : ReadFlowValue → ReadView
seen_of v = at_rest v.next v.holds

abbrev pub seen_out : ReadCallValue → ReadView
seen_out c = waiting c.step c.awaited c.holds

abbrev pub seen_after : Progress ReadFlowValue ReadDone → ReadView
seen_after (Next later) = seen_of later
seen_after (Ended done) = ended (ending_of done.end)

-- it is what was asked, and gives the tuplesets back at its end
abbrev pub IsAsked : ℕ → Freshness → List Tupleset → Progress ReadFlowValue ReadDone → Type 0
IsAsked shards fresh sets (Next later) = later ≡ record { shards = shards; fresh = fresh; sets = sets; next = later.next; holds = later.holds; next_name = later.next_name }
IsAsked shards fresh sets (Ended done) = done.sets.items ≡ sets

-- what was gathered is held
abbrev pub holding : Gathered → Option BatchValue → ReadHolds
holding g b = record { heads = None; place = Some g.place; done = rows_of g.done.items; below = g.below; rows = g.rows.items; batch = b }

-- what it does next, and what it holds, between two calls
abbrev pub step_ready : Ready → ReadStep
step_ready ready.Heads = heads
step_ready ready.Flush = flush
step_ready (ready.CatchUp g set c) = catch_up
step_ready (ready.Read g set) = read

abbrev pub holds_ready : Ready → ReadHolds
holds_ready ready.Heads = nothing_read
holds_ready ready.Flush = nothing_read
holds_ready (ready.CatchUp g set c) = holding g c.batch
holds_ready (ready.Read g set) = holding g None

-- and while a call is out
abbrev pub step_out : Out → ReadStep
step_out out.Heads = heads
step_out out.Flush = flush
step_out (out.CatchUp g set c) = catch_up
step_out (out.Read g) = read

abbrev pub awaited_of : Out → ReadAwaited
awaited_of out.Heads = heads_call
awaited_of out.Flush = flush_call
awaited_of (out.CatchUp g set c) = catch_up_call c.awaited
awaited_of (out.Read g) = read_call

abbrev pub holds_out : Out → ReadHolds
holds_out out.Heads = nothing_read
holds_out out.Flush = nothing_read
holds_out (out.CatchUp g set c) = holding g c.held.batch
holds_out (out.Read g) = holding g None

-- what is seen of each
abbrev pub view_ready : Ready → ReadView
view_ready r = at_rest (step_ready r) (holds_ready r)

abbrev pub view_out : Out → ReadView
view_out o = waiting (step_out o) (awaited_of o) (holds_out o)

abbrev pub view_of : Progress Ready ends.ReadEnd → ReadView
view_of (Next r) = view_ready r
view_of (Ended end) = ended (ending_of end)

-- the name of its next call
abbrev pub name_ready : Ready → CallName
name_ready ready.Heads = names.Heads
name_ready ready.Flush = names.Flush
name_ready (ready.CatchUp g set c) = c.next
name_ready (ready.Read g set) = names.Read

-- the next tupleset is this one, and a shard of it is asked next
pub record IsNext (shards : ℕ) (sets : List Tupleset) (g : Gathered) (set : Tupleset) : Type 0 where
  pub there : slice_get sets (length (rows_of g.done.items)) ≡ Some set
  pub few : g.below < shards

-- the catch-up is that of the shard which is asked next, to the place
pub record IsOnItsWay (shards : ℕ) (g : Gathered) (set : Tupleset) (c : CatchUpValue) : Type 0 where
  pub shard : c.shard ≡ shard_for shards set g.below
  pub there : c.shard < shards
  pub to : c.to ≡ g.place

-- what a read of these tuplesets keeps between two calls, and while one is out
abbrev pub IsReadyOf : ℕ → List Tupleset → Ready → Type 0
IsReadyOf shards sets ready.Heads = Unit {0}
IsReadyOf shards sets ready.Flush = Unit {0}
IsReadyOf shards sets (ready.CatchUp g set c) = IsNext shards sets g set × IsOnItsWay shards g set c
IsReadyOf shards sets (ready.Read g set) = IsNext shards sets g set

abbrev pub IsOutOf : ℕ → List Tupleset → Out → Type 0
IsOutOf shards sets out.Heads = Unit {0}
IsOutOf shards sets out.Flush = Unit {0}
IsOutOf shards sets (out.CatchUp g set c) = IsNext shards sets g set × IsOnItsWay shards g set c.held
IsOutOf shards sets (out.Read g) = g.below < shards
