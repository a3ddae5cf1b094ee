-- What a flow begins with, and which requests begin one.
use Rattle.std.specs.Prelude.{◌≤◌, ◌<◌, ℕ, false, length, Some, None}
use Rattle.tuples.specs.Checking.{userset_of}
use Rattle.tuples.specs.Limits.{max_asked, max_number, max_watched}
use Rattle.decisions.specs.Flows.{Freshness, at_least, exact, latest, no_heads, nothing_begun, nothing_read}
use Rattle.answer_flow.specs.ReadViews as read_views
use Rattle.answer_flow.specs.CheckViews as check_views
use Rattle.answer_flow.specs.WatchViews as watch_views
use Rattle.care_flow.specs.Cares as cares
use Rattle.names.specs.declared.care.Care.{Care}
use Rattle.names.specs.declared.care.Care.TheVariants as any_care
use Rattle.names.specs.declared.node_name.NodeName.{NodeName}
use Rattle.names.specs.declared.call_name.CallName.TheVariants as names
use Rattle.names.specs.declared.node_name.NodeName.TheVariants.{Coordinator, Shard}
use Rattle.cluster.specs.declared.flow.Flow.{Flow}
use Rattle.cluster.specs.declared.flow.Flow.TheVariants.{Write, Read, Check, Watch, Care as a_care}
use Rattle.tuples.specs.declared.request.Request.{Request}
use Rattle.tuples.specs.declared.request.Request.TheVariants as requests

-- a place that is asked for is a number that places have
abbrev pub IsFresh : Freshness → Type 0
IsFresh latest = Unit {0}
IsFresh (at_least place) = place ≤ max_number
IsFresh (exact place) = place ≤ max_number

-- what is asked is within its limits
abbrev pub IsInLimits : Request → Type 0
IsInLimits (requests.Write write) = Unit {0}
IsInLimits (requests.Read fresh sets) = IsFresh fresh × (1 ≤ length sets.items) × (length sets.items ≤ max_asked)
IsInLimits (requests.Check fresh tuple) = IsFresh fresh
IsInLimits (requests.Watch cursor limit names) = (cursor ≤ max_number) × (1 ≤ limit) × (limit ≤ max_watched) × (1 ≤ length names.items) × (length names.items ≤ max_asked)

-- the node of this name is there in a store of this many shards
abbrev pub IsNodeThere : ℕ → NodeName → Type 0
IsNodeThere shards Coordinator = Unit {0}
IsNodeThere shards (Shard s) = s < shards

-- the node that is cared for is there, and the place of a raise is a number that places have
abbrev pub MayCare : ℕ → Care → Type 0
MayCare shards (any_care.Flush node) = IsNodeThere shards node
MayCare shards (any_care.Checkpoint node) = IsNodeThere shards node
MayCare shards (any_care.Learn s) = s < shards
MayCare shards (any_care.Resolve s) = s < shards
MayCare shards (any_care.Raise place) = place ≤ max_number
MayCare shards (any_care.Collect s) = s < shards

-- the flow of a request before its first call
abbrev pub begun_for : ℕ → Request → Flow
begun_for shards (requests.Write write) = Write (record {
  flow = record { shards = shards; write = Some write; holds = nothing_begun; caught = None; flushed = false; next_name = names.Begin };
  is_cancelled = false;
})
begun_for shards (requests.Read fresh sets) = Read (record { shards = shards; fresh = fresh; sets = sets.items; next = read_views.heads; holds = nothing_read; next_name = names.Heads })
begun_for shards (requests.Check fresh tuple) =
    Check (record { shards = shards; fresh = fresh; user = tuple.user; next = check_views.heads; holds = check_views.begins_at (userset_of tuple); next_name = names.Heads })
begun_for shards (requests.Watch cursor limit names) =
    Watch (record { cursor = cursor; limit = limit; namespaces = names.items; next = watch_views.heads; holds = no_heads })

-- the flow of a care before its first call
abbrev pub caring_for : ℕ → Care → Flow
caring_for shards care = a_care (cares.begun shards care)
