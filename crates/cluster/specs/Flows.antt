-- What is told of any flow, in the words of the flow that it is.
use Rattle.std.specs.Prelude.{◌≡◌, ℕ, Bool, true, false, Option, Some}
use Rattle.names.specs.declared.call_name.CallName.{CallName}
use Rattle.answer_flow.specs.WatchViews as watch_views
use Rattle.care_flow.specs.Cares as cares
use Rattle.cluster.specs.declared.flow.Flow.{Flow}
use Rattle.cluster.specs.declared.flow.Flow.TheVariants.{Write, Read, Check, Watch, Care}

-- the name of its next call
abbrev pub next_name_of : Flow → Option CallName
next_name_of (Write w) = Some w.flow.next_name
next_name_of (Read v) = Some v.next_name
next_name_of (Check v) = Some v.next_name
next_name_of (Watch v) = Some (watch_views.name_of v.next)
next_name_of (Care v) = cares.next_name_of v

-- nothing more is reported of it
abbrev pub is_cancelled : Flow → Bool
is_cancelled (Write w) = w.is_cancelled
is_cancelled (Read v) = false
is_cancelled (Check v) = false
is_cancelled (Watch v) = false
is_cancelled (Care v) = false

-- a flow of a store of this many shards
abbrev pub IsOf : ℕ → Flow → Type 0
IsOf shards (Write w) = w.flow.shards ≡ shards
IsOf shards (Read v) = v.shards ≡ shards
IsOf shards (Check v) = v.shards ≡ shards
IsOf shards (Watch v) = Unit {0}
IsOf shards (Care v) = cares.IsThere shards v

-- a care that waits makes a call next
abbrev pub HasNext : Flow → Type 0
HasNext (Care v) = cares.has_next v ≡ true
HasNext flow = Unit {0}

-- its next call has this name
abbrev pub IsNamed : Flow → CallName → Type 0
IsNamed flow name = (next_name_of flow ≡ Some name) × HasNext flow
