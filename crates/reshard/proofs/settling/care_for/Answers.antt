use Rattle.std.proofs.lemmas.Result.{IfErr-weaker, err_from_is_err_and, on_ok_weaker}
use Rattle.names.specs.declared.care.Care.TheVariants.{Collect, Learn, Resolve}
use Rattle.reshard.specs.Refusing.{RefusesCare}
use Rattle.reshard.proofs.Caring.{cares_then, refused_later, serves_care}
use Rattle.reshard.proofs.settling.care_for.Goals as goal

pub returns-in_err-serve-2-clause-err : goal.returns-in_err-serve-2-clause-err
returns-in_err-serve-2-clause-err g c =
    let p = err_from_is_err_and c.from_residual-in_err-serve-2.result c.from_residual-in_err-serve-2.ensures.1 in
    rw (p.1, p.2) (refused_later g.D.Device.state g.D.Device.honest g.D.Device.moment g.D.Device.left_since c.args.world.now c.serve.new.world c.serve-2.new.world _
    (serves_care g.D.Device.state g.D.Device.honest g.D.Device.moment g.D.Device.left_since (Resolve c.args.shard) c.args.world.now c.serve.new.world tt c.in_ok-serve.ensures.ok) c.in_err-serve-2.ensures.err)

pub returns-clause-ok : goal.returns-clause-ok
returns-clause-ok g c =
    let one = serves_care g.D.Device.state g.D.Device.honest g.D.Device.moment g.D.Device.left_since (Resolve c.args.shard) c.args.world.now c.serve.new.world tt c.in_ok-serve.ensures.ok in
    let two = serves_care g.D.Device.state g.D.Device.honest g.D.Device.moment g.D.Device.left_since (Learn c.args.shard) c.serve.new.world c.serve-2.new.world tt c.in_ok-serve-2.ensures.ok in
    on_ok_weaker c.serve-3.result
    (λ third. cares_then g.D.Device.state g.D.Device.honest g.D.Device.moment g.D.Device.left_since c.args.world.now c.serve-2.new.world c.serve-3.new.world (cares_then g.D.Device.state g.D.Device.honest g.D.Device.moment g.D.Device.left_since c.args.world.now c.serve.new.world c.serve-2.new.world one two)
    (serves_care g.D.Device.state g.D.Device.honest g.D.Device.moment g.D.Device.left_since (Collect c.args.shard) c.serve-2.new.world c.serve-3.new.world tt third))
    c.serve-3.ensures.ok

pub returns-clause-err : goal.returns-clause-err
returns-clause-err g c =
    let one = serves_care g.D.Device.state g.D.Device.honest g.D.Device.moment g.D.Device.left_since (Resolve c.args.shard) c.args.world.now c.serve.new.world tt c.in_ok-serve.ensures.ok in
    let two = serves_care g.D.Device.state g.D.Device.honest g.D.Device.moment g.D.Device.left_since (Learn c.args.shard) c.serve.new.world c.serve-2.new.world tt c.in_ok-serve-2.ensures.ok in
    IfErr-weaker c.serve-3.result (λ e. RefusesCare g.D.Device.state g.D.Device.honest g.D.Device.moment g.D.Device.left_since c.serve-2.new.world e c.serve-3.new.world) (λ e. RefusesCare g.D.Device.state g.D.Device.honest g.D.Device.moment g.D.Device.left_since c.args.world.now e c.serve-3.new.world)
    (λ e refuses. refused_later g.D.Device.state g.D.Device.honest g.D.Device.moment g.D.Device.left_since c.args.world.now c.serve-2.new.world c.serve-3.new.world e (cares_then g.D.Device.state g.D.Device.honest g.D.Device.moment g.D.Device.left_since c.args.world.now c.serve.new.world c.serve-2.new.world one two) refuses)
    c.serve-3.ensures.err
