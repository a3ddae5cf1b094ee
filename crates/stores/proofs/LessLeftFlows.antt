-- Nodes stay at rest, and know what they knew: what a store stands for stays.
use Rattle.std.proofs.Common.{◌≡◌, inl, inr, ⊎_elim, ℕ, ◌++◌, arith, List, sym, ◌∙◌, ap, ◌<◌, refl, ◌⊎◌, false}
use Rattle.stores.proofs.Words.{CoordinatorKnows, CoordinatorState, IsGivenOut, IsSettled, IsShardEpoch, ListedStand, Means, Moment, NodeName, NodeState, Nodes, NodesStand, Record, Rests, ShardKnows, ShardState, Stands, WriteId, at_shards, coordinator, down, leaves, shard, shard_state, staged_of, up, with_nodes}
use Rattle.stores.proofs.Frames.{same_taken}
use Rattle.stores.proofs.SameWrites.{SameWrites, still_stands}

-- All nodes stay at rest; what a stop leaves of a shard has in doubt what it could leave before; a shard has in doubt what it had, or is of a later
-- epoch; the coordinator is as it was, or down; and what a stop leaves of a node has no lower epoch, and of a shard has learned no less.
pub record GoesOn (store shards : ℕ) (left after : NodeName → List Record → Type 0) (now : Moment) (next : Nodes) : Type 0 where
  pub stands : Stands store shards left now
  pub rests : Rests store shards now.machine.log now.machine.kept now.machine.horizon (leaves after next coordinator) (at_shards (leaves after next))
  pub whole : (c : List Record) → leaves left now.nodes coordinator c → Means store shards now.machine.log now.machine.horizon c (at_shards (leaves left now.nodes))
      → Means store shards now.machine.log now.machine.horizon c (at_shards (leaves after next))
  pub in_doubt : (t : ℕ) (found : List Record) → leaves after next (shard t) found
      → (old : List Record) × leaves left now.nodes (shard t) old × ((shard_state old).in_doubt ≡ (shard_state found).in_doubt)
  pub listed : ListedStand store shards after next now.machine
  pub shard_knew : (t : ℕ) (m : ShardState) → ShardKnows next t m
      → ((old : ShardState) × ShardKnows now.nodes t old × (old.in_doubt ≡ m.in_doubt) × (old.epoch ≡ m.epoch)) ⊎ ((epoch : ℕ) → IsShardEpoch (left (shard t)) epoch → epoch < m.epoch)
  pub coordinator_was : (next.at coordinator ≡ now.nodes.at coordinator) ⊎ (next.at coordinator ≡ down)
  pub given_out : (id : WriteId) → IsGivenOut (left coordinator) id → IsGivenOut (after coordinator) id
  pub open_writes : next.open_writes ≡ now.nodes.open_writes
  pub given : next.given ≡ now.nodes.given
  pub epochs : (t epoch : ℕ) → IsShardEpoch (left (shard t)) epoch → IsShardEpoch (after (shard t)) epoch
  pub settled : (t place : ℕ) → IsSettled (left (shard t)) place → IsSettled (after (shard t)) place

module _ (store shards : ℕ) (left after : NodeName → List Record → Type 0) (now : Moment) (next : Nodes) (on : GoesOn store shards left after now next) where
  up_before : (d g : List Record) → next.at coordinator ≡ up d g → now.nodes.at coordinator ≡ up d g
  up_before d g is = ⊎_elim (λ same. sym same ∙ is) (λ gone. let both : down ≡ up d g = sym gone ∙ is in absurd cc) on.coordinator_was

  coordinator_knew : (kept m : CoordinatorState) → CoordinatorKnows next kept m → CoordinatorKnows now.nodes kept m
  coordinator_knew kept m k = record { durable = k.durable; staged = k.staged; is_up = up_before k.durable k.staged k.is_up; durable_state = k.durable_state; replayed = k.replayed }

  on_from : SameWrites store shards left after now next now.machine.kept now.machine.horizon
  on_from = record {
    stands = on.stands;
    kept_on = omega arith;
    horizon_on = omega arith;
    open_writes = on.open_writes;
    given = on.given;
    coordinator_knew = λ kept m k. (kept, m, coordinator_knew kept m k, refl);
    in_doubt = on.in_doubt;
    shard_knew = on.shard_knew;
    given_out = on.given_out;
    epochs = on.epochs;
    settled = on.settled;
    taken = λ x is. ⊎_elim
        (λ same. same_taken shards left after now (with_nodes now next) false same (omega arith) x is)
        (λ gone. ⊎_elim (λ low. inl low) (λ rest. inr (inr gone)) is)
        on.coordinator_was;
  }

  -- what the store stands for stays, if its nodes stand
  pub stands_on : NodesStand store shards after next → Stands store shards after (with_nodes now next)
  stands_on nodes = still_stands store shards left after now next now.machine.kept now.machine.horizon on_from on.rests nodes
      (record {
        log = λ kept m k. on.stands.heads.log kept m (coordinator_knew kept m k);
        kept = λ kept m k. on.stands.heads.kept kept m (coordinator_knew kept m k);
        horizon = λ kept m k. on.stands.heads.horizon kept m (coordinator_knew kept m k);
        whole = λ d g is.
            let was : now.nodes.at coordinator ≡ up d g = up_before d g is in
            let here : leaves left now.nodes coordinator (d ++ g) = (d, (on.stands.nodes.durable coordinator d g d was).1 refl, inr (ap (λ (n : NodeState). d ++ staged_of n) (sym was))) in
            on.whole (d ++ g) here (on.stands.heads.whole d g was);
      })
      on.listed
