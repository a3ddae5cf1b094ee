use Rattle.reshard.specs.Merging.{all_of}
use Rattle.reshard.specs.Gathering.{TellAll}
use Rattle.reshard.proofs.gathering.append_all.Given as goal

abbrev pub invariant-loop-shard : goal.invariant-loop-shard
invariant-loop-shard g l = TellAll g.D.Device.state g.D.Device.honest l.world.nodes l.shard (all_of l.rows)
