-- The records of a checkpoint stand for what its node had, staged records included.
use Rattle.std.proofs.Common.{inr, ◌+◌, ◌-◌, ◌≤◌, ◌<◌, ℕ, List, ◌++◌, length-drop, refl, sym, subst, arith}
use Rattle.flow_turns.proofs.CallWords.{CoordinatorState, CoordinatorView, Identity, Record, ShardView, StandFor, coordinator, coordinator_state, end_of, memory, shard}
use Rattle.records.specs.Checkpoints.{generation_of}
use Rattle.records.specs.Coordinators.{IsCoordinatorImage}
use Rattle.records.specs.Replays.{IsShardImage, greatest_number, shard_state}
use Rattle.replay.specs.Alike.{IsAlike}
use Rattle.replay.specs.Checkpoints.{shard_checkpoint}
use Rattle.replay.proofs.Checkpoints as of_shards
use Rattle.recovery.specs.Checkpoints.{above_horizon}
use Rattle.recovery.proofs.Checkpoints as of_coordinators
use Rattle.decisions.specs.Checkpoints.{next_checkpoint}
use Rattle.decisions.specs.Coordinators.{memory_of}
use Rattle.shard.specs.Checkpoints.{IsNextCheckpoint}
use Rattle.laws.specs.Nodes.{StandsForSame}
use Rattle.flow_turns.proofs.Named.{one_coordinator, one_shard}

-- what a coordinator knows above its horizon stands for all that it knows
without_collected : (s : CoordinatorState) → s.base ≤ s.horizon → s.horizon ≤ end_of s → StandsForSame s (above_horizon s)
without_collected s above within = record {
  horizon = refl;
  epoch = refl;
  above = above;
  within = inr (omega arith);
  log = refl;
  end = (let len = length-drop (s.horizon - s.base) s.log in omega (arith, above, within, len));
}

pub coordinator_point_stands : {D : Type 0} (v : CoordinatorView D) → IsCoordinatorImage v.me (v.durable ++ v.staged) → 1 ≤ (memory_of v).epoch → generation_of v.durable < greatest_number
    → StandFor coordinator (v.durable ++ v.staged) (next_checkpoint v)
coordinator_point_stands v image opened lt =
    let rs = v.durable ++ v.staged in
    let law = of_coordinators.checkpoints_stand v.me rs (generation_of v.durable + 1) image opened (omega arith) (omega (arith, lt)) in (
      subst (StandsForSame (coordinator_state rs)) (sym law.state) (without_collected (coordinator_state rs) law.above law.within),
      λ other is. subst (λ (i : Identity). IsCoordinatorImage i (next_checkpoint v)) (one_coordinator v.me other rs opened image is) law.image,
    )

pub shard_point_stands : {D : Type 0} (s : ℕ) (v : ShardView D) (cs : List Record) → IsShardImage v.me (v.durable ++ v.staged) → 1 ≤ (memory v).epoch → generation_of v.durable < greatest_number
    → IsNextCheckpoint v cs → StandFor (shard s) (v.durable ++ v.staged) cs
shard_point_stands s v cs image opened lt point =
    let rs = v.durable ++ v.staged in
    let law = of_shards.checkpoints_stand v.me rs (generation_of v.durable + 1) point.listed image opened (omega arith) (omega (arith, lt)) point.alike in (
      subst (λ (l : List Record). IsAlike (shard_state rs) (shard_state l)) (sym point.is) law.alike,
      λ other is. subst (IsShardImage other) (sym point.is)
          (subst (λ (i : Identity). IsShardImage i (shard_checkpoint v.me (generation_of v.durable + 1) (memory v) point.listed)) (one_shard v.me other rs opened image is) law.image),
    )
