use Rattle.std.proofs.Common.{ap}
use Rattle.reshard.specs.Merging.{all_of}
use Rattle.reshard.proofs.Gathered.{one_shard}
use Rattle.reshard.proofs.gathering.append_all.Goals as goal

pub loop-shard-init : goal.loop-shard-init
loop-shard-init g c = ap all_of c.requires

pub loop-shard-preserved : goal.loop-shard-preserved
loop-shard-preserved g c =
    one_shard g.D.Device.state g.D.Device.honest c.args.world.now.nodes c.loop-shard.shard c.loop-shard.rows c.append.new.rows c.loop-shard.invariant c.in_ok-append.ensures.ok
