use Rattle.std.proofs.Common.{Some, subst}
use Rattle.sides.proofs.Words.{Identity, ShardReopens}
use Rattle.sides.proofs.Openings.{opens_tied}
use Rattle.sides.proofs.Sound.{shard_opens_there}
use Rattle.sides.proofs.shard_side.ShardSide.open.Goals as goal

pub invariant_of-result : goal.invariant_of-result
invariant_of-result g c =
    let over = subst (λ (me : Identity). ShardReopens g.D.Device.state g.D.Device.honest g.D.Device.moment g.D.Device.left_since me c.args.a c.args.b c.reopen.result) c.requires.me c.reopen.ensures in (
      c.requires.own,
      c.requires.me,
      c.requires.shard,
      shard_opens_there g.D.Device.state g.D.Device.honest g.D.Device.moment g.D.Device.left_since g.B.Room.store g.B.Room.shards c.args.me.node c.args.a c.args.b (Some c.reopen.result) over,
      λ rests. opens_tied g.D.Device.state g.D.Device.honest g.D.Device.moment g.D.Device.left_since g.met.D.Device.counts_now g.B.Room.store g.B.Room.shards c.args.me.node c.args.a c.args.b (Some c.reopen.result) c.args.pass (c.requires.rows rests) over,
    )
