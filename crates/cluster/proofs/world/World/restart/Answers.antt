-- The restart of the node is a step of the store.
use Rattle.std.proofs.Common.{◌∙◌, sym}
use Rattle.cluster.specs.Worlds.{WorldView}
use Rattle.cluster.proofs.Stepping.{restarted}
use Rattle.cluster.proofs.world.World.restart.Goals as goal

pub returns : goal.returns
returns g c =
    let view : WorldView g.row.D.Denot = record { store = c.self.inside.store; shards = c.self.inside.shards; nodes = c.self.inside.nodes.items; flows = c.self.inside.flows.slots } in
    restarted g.D.Device.state g.D.Device.honest g.D.Device.moment g.D.Device.left_since view c.args.self.now c.args.name c.restart.result c.restart.new.nodes.items c.self.view_is c.restart.ensures.restarts

pub invariant_of-self : goal.invariant_of-self
invariant_of-self g c = record { count = sym c.restart.new.nodes.ok.0 ∙ c.restart.ensures.count; flows = c.self.invariant.flows }

pub restart-requires : goal.restart-requires
restart-requires g c = record { count = c.self.inside.nodes.ok.0 ∙ c.self.invariant.count }
