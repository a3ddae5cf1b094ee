use Rattle.reshard.proofs.Turning.{comes_to_end, countless, next_is, one_more}
use Rattle.reshard.proofs.playing.run_out.Goals as goal

pub returns-in-Some-turn : goal.returns-in-Some-turn
returns-in-Some-turn g c =
    let e = c.in-Some-turn.ensures in
    comes_to_end g.D.Device.state g.D.Device.honest g.D.Device.moment g.D.Device.left_since c.args.slot c.loop.made c.args.world.now c.loop.world c.loop.invariant c.turn.new.world e.0 e.1 c.in-Some-turn.outcome e.2

pub loop-preserved : goal.loop-preserved
loop-preserved g c =
    let e = c.in_default-turn.ensures in
    let next = next_is c.loop.world c.args.slot c.next.result c.in-Some.name c.loop.invariant.holds c.next.ensures c.in-Some.is in
    one_more g.D.Device.state g.D.Device.honest g.D.Device.moment g.D.Device.left_since c.args.slot c.loop.made c.args.world.now c.loop.world c.loop.invariant c.turn.new.world e.0 e.1 c.in-Some.name next e.2

pub returns : goal.returns
returns g c = countless g.D.Device.state g.D.Device.honest g.D.Device.moment g.D.Device.left_since c.args.slot c.loop.made c.args.world.now c.loop.world c.loop.invariant
