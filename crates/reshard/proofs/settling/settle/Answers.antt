use Rattle.std.proofs.lemmas.Result.{IfErr-weaker}
use Rattle.names.specs.declared.care.Care.TheVariants.{Flush}
use Rattle.names.specs.declared.node_name.NodeName.TheVariants.{Coordinator}
use Rattle.reshard.specs.Refusing.{RefusesCare}
use Rattle.reshard.proofs.Caring.{refused_later, serves_care}
use Rattle.reshard.proofs.settling.settle.Goals as goal

pub returns-clause-err : goal.returns-clause-err
returns-clause-err g c =
    IfErr-weaker c.care_for_all.result (λ e. RefusesCare g.D.Device.state g.D.Device.honest g.D.Device.moment g.D.Device.left_since c.serve.new.world e c.care_for_all.new.world) (λ e. RefusesCare g.D.Device.state g.D.Device.honest g.D.Device.moment g.D.Device.left_since c.args.world.now e c.care_for_all.new.world)
    (λ e refuses. refused_later g.D.Device.state g.D.Device.honest g.D.Device.moment g.D.Device.left_since c.args.world.now c.serve.new.world c.care_for_all.new.world e
    (serves_care g.D.Device.state g.D.Device.honest g.D.Device.moment g.D.Device.left_since (Flush Coordinator) c.args.world.now c.serve.new.world tt c.in_ok-serve.ensures.ok) refuses)
    c.care_for_all.ensures.err
