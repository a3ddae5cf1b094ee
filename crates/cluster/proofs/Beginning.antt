-- A flow begins: what was begun is of the store, as the others are.
use Rattle.std.proofs.Common.{◌≡◌, ◌↔◌, ℕ, Bool, true, List, Option, Result, Ok, Err, OnErr, OnOk, IsTrue, refl, subst, sym}
use Rattle.std.specs.declared.alloc.AllocError.{AllocError}
use Rattle.slab.specs.Slab.{Slab}
use Rattle.names.specs.declared.care.Care.{Care}
use Rattle.names.specs.declared.care.Care.TheVariants as cares
use Rattle.names.specs.declared.node_name.NodeName.TheVariants.{Coordinator, Shard}
use Rattle.cluster.specs.declared.event.What.{What}
use Rattle.cluster.specs.declared.flow.Flow.{Flow}
use Rattle.tuples.specs.declared.request.Request.{Request}
use Rattle.tuples.specs.declared.request.Request.TheVariants.{Write, Read, Check, Watch}
use Rattle.cluster.specs.Begun.{MayCare, begun_for, caring_for}
use Rattle.cluster.specs.Flows.{IsOf}
use Rattle.cluster.specs.Kept.{AreFlows}
use Rattle.cluster.specs.Steps.{AddsFlow}
use Rattle.cluster.proofs.Slots.{keeps_flow}

pub request_of : (shards : ℕ) (request : Request) → IsOf shards (begun_for shards request)
request_of shards (Write write) = refl
request_of shards (Read fresh sets) = refl
request_of shards (Check fresh tuple) = refl
request_of shards (Watch cursor limit names) = tt

pub care_of : (shards : ℕ) (care : Care) → MayCare shards care → IsOf shards (caring_for shards care)
care_of shards (cares.Flush Coordinator) may = tt
care_of shards (cares.Flush (Shard s)) may = may
care_of shards (cares.Checkpoint Coordinator) may = tt
care_of shards (cares.Checkpoint (Shard s)) may = may
care_of shards (cares.Learn s) may = may
care_of shards (cares.Resolve s) may = may
care_of shards (cares.Raise place) may = refl
care_of shards (cares.Collect s) may = may

pub adds_keep : (shards : ℕ) (old new : List (Option Flow)) (flow : Flow) (told : Option What) → AddsFlow old flow told new → IsOf shards flow → AreFlows shards old → AreFlows shards new
adds_keep shards old new flow told adds of all = keeps_flow shards old new adds.slot flow adds.puts all of

-- a slab with more room has the same flows
pub added : (old room : Slab Flow) (flow is : Flow) (told : Option What) (new : List (Option Flow)) → room ≡ record old { capacity = room.capacity } → is ≡ flow → AddsFlow room.slots is told new → AddsFlow old.slots flow told new
added old room flow is told new same eq adds =
    subst (λ (f : Flow). AddsFlow old.slots f told new) eq (subst (λ (s : Slab Flow). AddsFlow s.slots is told new) same adds)

pub test_true : (b : Bool) (P : Type 0) → (IsTrue b ↔ P) → b ≡ true → P
test_true b P same is = same.0 is

-- if it could not begin for lack of memory, the flows are those that there were
pub kept_so : (shards : ℕ) (old new : List (Option Flow)) (result : Result (Option What) AllocError) → OnOk result (AreFlows shards old → AreFlows shards new) → OnErr result (new ≡ old)
    → AreFlows shards old → AreFlows shards new
kept_so shards old new (Ok told) ok err all = ok all
kept_so shards old new (Err e) ok err all = subst (AreFlows shards) (sym err) all
