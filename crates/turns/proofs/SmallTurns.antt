-- A small turn, by the contract of a call: the shard of a store that was just made settles for a raise of the horizon to the first place.
use Rattle.std.proofs.Common.{◌≡◌, ℕ, ◌<◌, false, [], ◌∷◌, refl, arith}
use Rattle.records.specs.Replays.{shard_state, shard_step}
use Rattle.turns.proofs.Words.{ShardView, Stands, StandsAndTurns, State, begun, only_opened, opened, opened_nodes, opening_of, raising, shard, shard_node, to_raise, with_call, with_flow}
use Rattle.decisions.specs.Values.{SettledValue}
use Rattle.stores.specs.Flows.{nothing_raised}
use Rattle.stores.proofs.FlowBegins.{alone, flows_begin}
use Rattle.stores.proofs.NewStore.{stands}
use Rattle.turns.proofs.ShardReadSeam.{settle_turns}

module _ {D : Type 0} (state : D → State) (honest : D → Type 0) (device : D) (store shards s : ℕ) (there : s < shards) where
  -- the shard, as it is seen
  abbrev new_shard : ShardView D
  new_shard = record { a = device; b = device; end = 0; durable = opening_of store shards (shard s); staged = []; is_down = false; me = shard_node store shards s }

  -- it has learned nothing yet
  abbrev nothing_settled : SettledValue
  nothing_settled = record { shard = s; place = 0 }

  raise_begun : Stands store shards (only_opened store shards) (with_flow (opened store shards) 0 (to_raise 0))
  raise_begun = flows_begin store shards (only_opened store shards) (opened store shards) 0 (to_raise 0) refl (omega arith) (stands store shards)

  nothing_learned : 0 ≡ (shard_state (opening_of store shards (shard s))).learned
  unfolding shard_state shard_step
  nothing_learned = refl

  settles : StandsAndTurns store shards (only_opened store shards) (with_flow (opened store shards) 0 (to_raise 0)) (opened_nodes store shards) (begun 0 (to_raise 0))
      (with_call (begun 0 (to_raise 0)) (raising (record nothing_raised { settled = nothing_settled ∷ [] })) (begun 0 (to_raise 0)).met (opened store shards).machine)
  settles = settle_turns store shards (only_opened store shards) state honest (with_flow (opened store shards) 0 (to_raise 0)) new_shard s 0 nothing_settled (begun 0 (to_raise 0)) nothing_raised
      raise_begun (record { there = there; me = refl; at = refl }) (alone (begun 0 (to_raise 0)) []) refl refl (omega arith)
      (record { shard = refl; place = nothing_learned; learned = λ rs finds. omega arith })
