use Rattle.std.proofs.lemmas.Result.{err_from_is_err_and}
use Rattle.reshard.proofs.Caring.{refused_later}
use Rattle.reshard.proofs.settling.care_for_all.Goals as goal

pub returns-in_err-care_for-clause-err : goal.returns-in_err-care_for-clause-err
returns-in_err-care_for-clause-err g c =
    let p = err_from_is_err_and c.from_residual.result c.from_residual.ensures.1 in
    rw (p.1, p.2) (refused_later g.D.Device.state g.D.Device.honest g.D.Device.moment g.D.Device.left_since c.args.world.now c.loop-shard.world c.care_for.new.world _ c.loop-shard.invariant.cares c.in_err-care_for.ensures.err)
