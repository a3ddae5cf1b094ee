-- Each step that was taken makes the run one step longer.
use Rattle.std.proofs.Common.{◌∙◌, sym}
use Rattle.cluster.proofs.Runs.{on_ok, ran_more, ran_none}
use Rattle.cluster.proofs.running.run.Goals as goal

pub loop-number-init : goal.loop-number-init
loop-number-init g c = ran_none g.D.Device.state g.D.Device.honest g.D.Device.moment g.D.Device.left_since c.args.world.now c.args.steps.now c.args.events.now.items

pub loop-number-preserved : goal.loop-number-preserved
loop-number-preserved g c =
    let took = on_ok c.run_one.result _ (sym c.is_err.ensures.value ∙ c.if-is_err.false) c.run_one.ensures.ok in
    ran_more g.D.Device.state g.D.Device.honest g.D.Device.moment g.D.Device.left_since c.args.world.now c.loop-number.world c.run_one.new.world c.args.steps.now c.loop-number.number c.index-steps-number.result
    c.args.events.now.items c.loop-number.events.items took.0 c.run_one.new.events.items c.loop-number.invariant c.loop-number-test.true c.index-steps-number.is took.1 took.2
