use Rattle.std.proofs.Common.{refl}
use Rattle.calls.specs.declared.carrying.Reach.{Reach}
use Rattle.names.specs.declared.node_name.NodeName.TheVariants.{Shard}
use Rattle.dumping.specs.Looking.{IsWithin, ReachesAt}
use Rattle.dumping.proofs.OneShardMore.{one_shard_more}
use Rattle.dumping.proofs.looking.look_over.Goals as goal

pub loop-shard-preserved : goal.loop-shard-preserved
loop-shard-preserved g c =
    one_shard_more (λ s. (reach : Reach) × ReachesAt g.D.Device.state g.D.Device.honest c.args.world.now.nodes (Shard s) reach × IsWithin reach c.in_ok-log.log) c.loop-shard.shard
    c.loop-shard.invariant (c.in_ok-reach_of.field-0, c.in_ok-reach_of.ensures, c.if-not-is_within.ensures.0 refl)
