use Rattle.std.proofs.Common.{arith}
use Rattle.std.proofs.lemmas.Result.{err_from_is_err_and}
use Rattle.reshard.proofs.Up.{first_down, up_more}
use Rattle.reshard.proofs.settling.are_up.Goals as goal

pub returns-in_err-_shard : goal.returns-in_err-_shard
returns-in_err-_shard g c =
    let p = err_from_is_err_and c.from_residual-in_err-_shard.result c.from_residual-in_err-_shard.ensures.1 in
    rw (p.1, p.2) (first_down g.D.Device.state g.D.Device.honest c.args.world.now c.loop-shard.shard _ (omega arith) c.loop-shard.invariant c.in_err-_shard.ensures)

pub loop-shard-preserved : goal.loop-shard-preserved
loop-shard-preserved g c = up_more g.D.Device.state g.D.Device.honest c.args.world.now.nodes c.loop-shard.shard c.in_ok-_shard._shard c.loop-shard.invariant c.in_ok-_shard.ensures
