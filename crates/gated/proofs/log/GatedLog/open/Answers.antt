use Rattle.std.proofs.Common.{[], arith}
use Rattle.gated.proofs.Appends.{room_first}
use Rattle.gated.proofs.WrittenAhead.{none_ahead}
use Rattle.gated.proofs.log.GatedLog.open.Goals as goal

pub invariant_of-result : goal.invariant_of-result
invariant_of-result g c = (omega arith, λ hon up. record { ahead = []; is = none_ahead (g.D.Device.state c.find_list.new.device) c.in-Ok.end (c.in-Ok.ensures.ready (c.find_list.ensures.honest.1 hon)) })

pub returns-in-Ok-clause-end : goal.returns-in-Ok-clause-end
returns-in-Ok-clause-end g c = λ hon.
    let room = room_first (g.D.Device.state c.find_list.new.device) c.in-Ok.end (c.in-Ok.ensures.ready hon) in
    omega (arith, room)

pub returns-in-Ok-clause-ahead : goal.returns-in-Ok-clause-ahead
returns-in-Ok-clause-ahead g c = λ hon. none_ahead (g.D.Device.state c.find_list.new.device) c.in-Ok.end (c.in-Ok.ensures.ready hon)
