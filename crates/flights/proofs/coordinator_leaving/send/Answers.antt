use Rattle.flights.proofs.LogLaunched.{log_left_behind}
use Rattle.flights.proofs.coordinator_leaving.send.Goals as goal

pub leave-requires-clause-out : goal.leave-requires-clause-out
leave-requires-clause-out g c =
    let lent = c.in-Ok.field-0 in
    log_left_behind g.D.Device.state g.D.Device.honest g.B.Room.store g.B.Room.shards c.args.side.node lent.side.node lent.flight lent.flying c.in-Ok.ensures.lends c.requires.up
