-- What a node of a store answered belongs to the call.
use Rattle.std.proofs.Common.{ℕ, List, ap}
use Rattle.flow_turns.proofs.CallWords.{Answered, Coordinator, Identity, IsCalled, IsOwed, IsReplyTo, NodeCall, NodeView, Reply, Shard, State, Store, called}
use Rattle.calls.specs.Belonging.{IsNodeOf}
use Rattle.calls.specs.Names.{node_of}
use Rattle.calls.specs.Views as views
use Rattle.calls.proofs.Belonging.{answered_belongs, may_ask}
use Rattle.flow_turns.specs.StoreCalls.{IsNamed}

pub is_node_of : {D : Type 0} (store shards : ℕ) (call : NodeCall) (was : NodeView D) → IsNamed store shards was (called call) → IsNodeOf shards (node_of call) was
is_node_of store shards (Coordinator call) (views.coordinator v) named = ap (λ (i : Identity). i.shards) named
is_node_of store shards (Coordinator call) (views.shard v) named = absurd named
is_node_of store shards (Coordinator call) (views.refused e a b) named = tt
is_node_of store shards (Shard s call) (views.coordinator v) named = absurd named
is_node_of store shards (Shard s call) (views.shard v) named = (ap (λ (i : Identity). i.node) named, ap (λ (i : Identity). i.shards) named)
is_node_of store shards (Shard s call) (views.refused e a b) named = tt

pub belongs_to : {D : Type 0} (state : D → State) (honest : D → Type 0) (moment : D → ℕ) (left_since : D → ℕ → List ℕ → Type 0) (store shards : ℕ) (old new : Store D) (call : NodeCall) (reply : Reply)
    (was is : NodeView D) → IsCalled state honest moment left_since store shards (called call) was is old new → IsOwed shards call → Answered state honest moment left_since was call reply is → IsReplyTo call reply
belongs_to state honest moment left_since store shards old new call reply was is c owed so =
    answered_belongs state honest moment left_since was call reply is (may_ask shards was call owed (is_node_of store shards call was c.before.named)) so
