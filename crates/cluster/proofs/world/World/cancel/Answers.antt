-- The cancel of the flow is a step of the store.
use Rattle.cluster.specs.Worlds.{WorldView}
use Rattle.cluster.proofs.Stepping.{cancelled}
use Rattle.cluster.proofs.world.World.cancel.Goals as goal

pub invariant_of-self : goal.invariant_of-self
invariant_of-self g c = record { count = c.self.invariant.count; flows = c.cancel.ensures.kept c.self.inside.shards c.self.invariant.flows }

pub returns : goal.returns
returns g c =
    let view : WorldView g.row.D.Denot = record { store = c.self.inside.store; shards = c.self.inside.shards; nodes = c.self.inside.nodes.items; flows = c.self.inside.flows.slots } in
    cancelled g.D.Device.state g.D.Device.honest g.D.Device.moment g.D.Device.left_since view c.args.self.now c.args.slot c.cancel.new.flows.slots c.self.view_is c.cancel.ensures.cancels
