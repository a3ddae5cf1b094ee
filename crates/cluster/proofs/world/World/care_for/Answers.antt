-- The beginning of a flow is a step of the store.
use Rattle.cluster.specs.Worlds.{WorldView}
use Rattle.cluster.proofs.Beginning.{kept_so}
use Rattle.cluster.proofs.Stepping.{cared, unchanged}
use Rattle.cluster.proofs.world.World.care_for.Goals as goal

pub returns-clause-ok : goal.returns-clause-ok
returns-clause-ok g c =
    let view : WorldView g.row.D.Denot = record { store = c.self.inside.store; shards = c.self.inside.shards; nodes = c.self.inside.nodes.items; flows = c.self.inside.flows.slots } in
    cared g.D.Device.state g.D.Device.honest g.D.Device.moment g.D.Device.left_since view c.args.self.now c.args.care c.care_for.result c.care_for.new.flows.slots c.self.view_is c.care_for.ensures.ok

pub returns-clause-err : goal.returns-clause-err
returns-clause-err g c =
    let view : WorldView g.row.D.Denot = record { store = c.self.inside.store; shards = c.self.inside.shards; nodes = c.self.inside.nodes.items; flows = c.self.inside.flows.slots } in
    unchanged g.D.Device.state g.D.Device.honest g.D.Device.moment g.D.Device.left_since view c.args.self.now c.care_for.result c.care_for.new.flows.slots c.self.view_is c.care_for.ensures.err

pub invariant_of-self : goal.invariant_of-self
invariant_of-self g c = record { count = c.self.invariant.count; flows = kept_so c.self.inside.shards c.self.inside.flows.slots c.care_for.new.flows.slots c.care_for.result c.care_for.ensures.kept c.care_for.ensures.err c.self.invariant.flows }
