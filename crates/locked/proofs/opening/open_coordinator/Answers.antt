use Rattle.std.proofs.Common.{◌≡◌, ℕ, subst}
use Rattle.locked.proofs.Words.{coordinator_number}
use Rattle.locked.proofs.NewDevices.{coordinator_rests, first_two_refused, others_honest, shards_rest}
use Rattle.locked.proofs.opening.open_coordinator.Goals as goal

pub open-requires-clause-anywhere : goal.open-requires-clause-anywhere
open-requires-clause-anywhere g c rests =
    coordinator_rests g.D.Device.state g.D.Device.honest g.B.Room.shards g.B.Room.first g.B.Room.low c.args.devices.now.items c.take_two-a.result.0 c.take_two-a.result.1 c.take_two-a.new.devices.items c.take_two-a.ensures.items
    (c.requires.rests rests)

pub returns-clause-rests : goal.returns-clause-rests
returns-clause-rests g c rests =
    shards_rest g.D.Device.state g.D.Device.honest g.B.Room.shards g.B.Room.first g.B.Room.low c.args.devices.now.items c.take_two-a.result.0 c.take_two-a.result.1 c.take_two-a.new.devices.items c.take_two-a.ensures.items
    (c.requires.rests rests)

pub returns-clause-honest : goal.returns-clause-honest
returns-clause-honest g c = others_honest g.D.Device.honest c.args.devices.now.items c.take_two-a.result.0 c.take_two-a.result.1 c.take_two-a.new.devices.items c.take_two-a.ensures.items c.requires.honest

pub returns-clause-refused : goal.returns-clause-refused
returns-clause-refused g c =
    let own = subst (λ (n : ℕ). c.coordinator.result ≡ record { store = n; shards = c.args.ground.now.shards; node = coordinator_number }) c.args.ground.now.of.0 c.coordinator.ensures in
    let same = subst (λ (n : ℕ). c.coordinator.result ≡ record { store = g.B.Room.store; shards = n; node = coordinator_number }) c.args.ground.now.of.1 own in
    first_two_refused g.D.Device.state g.D.Device.honest g.D.Device.moment g.D.Device.left_since g.B.Room.store g.B.Room.shards c.coordinator.result c.args.devices.now.items c.take_two-a.result.0 c.take_two-a.result.1
    c.take_two-a.new.devices.items c.open.result c.take_two-a.ensures.items same c.open.ensures.refused
