-- A catch-up stays of its shard, up to its place.
use Rattle.std.proofs.Common.{◌≡◌, ℕ, refl, sym, subst}
use Rattle.calls.specs.Names.{name_of}
use Rattle.names.specs.declared.call_name.CallName.{CallName}
use Rattle.calls.specs.declared.call.NodeCall.{NodeCall}
use Rattle.calls.specs.declared.call.NodeCall.TheVariants.{Coordinator, Shard}
use Rattle.calls.specs.declared.call.CoordinatorCall.TheVariants.{Batch}
use Rattle.calls.specs.declared.call.ShardCall.TheVariants.{Learned, Learn, Flush}
use Rattle.catch_up.specs.Held.{CatchUpCallValue, CatchUpValue}
use Rattle.catch_up.specs.CatchingUp.{Asks}
use Rattle.care_flow.specs.CatchUps.{on_its_way}

-- also while a call is out
pub asking_keeps : (v : CatchUpValue) (call : NodeCall) (after : CatchUpCallValue) → Asks v call after → (after.held.shard ≡ v.shard) × (after.held.to ≡ v.to)
asking_keeps v (Coordinator (Batch from to)) after asks = rw asks.3 (refl, refl)
asking_keeps v (Coordinator call) after asks = absurd asks
asking_keeps v (Shard s Learned) after asks = rw asks.1 (refl, refl)
asking_keeps v (Shard s (Learn batch)) after asks = rw asks.1.1 (refl, refl)
asking_keeps v (Shard s Flush) after asks = rw asks.1 (refl, refl)
asking_keeps v (Shard s call) after asks = absurd asks.1

-- what it asks, a catch-up of this shard and this place asks
pub asks_on_its_way : (v : CatchUpValue) (s to : ℕ) (call : NodeCall) (after : CatchUpCallValue) → Asks v call after → v.shard ≡ s → v.to ≡ to → name_of call ≡ v.next
    → Asks (record (on_its_way s to v.batch) { next = name_of call; from = v.from; flushed = v.flushed }) call after
asks_on_its_way v s to call after asks own there name =
    let of_shard = subst (λ (k : ℕ). Asks (record v { shard = k }) call after) own asks in
    let up_to = subst (λ (n : ℕ). Asks (record v { shard = s; to = n }) call after) there of_shard in
    subst (λ (n : CallName). Asks (record v { shard = s; to = to; next = n }) call after) (sym name) up_to
