-- The turn of the flow is a step of the store.
use Rattle.std.proofs.Common.{◌≡◌, ◌∙◌, ◌++◌, List, None, MatchOption, ap, drop, length, subst, sym, take}
use Rattle.calls.specs.Views.{NodeView}
use Rattle.cluster.specs.Steps.{SlotTurns}
use Rattle.cluster.specs.Worlds.{WorldView, flow_at}
use Rattle.cluster.proofs.Counting.{slot_turned}
use Rattle.cluster.proofs.Places.{whole}
use Rattle.cluster.proofs.Stepping.{turned}
use Rattle.cluster.proofs.world.World.turn.Goals as goal

pub invariant_of-self : goal.invariant_of-self
invariant_of-self g c =
    let had = c.self.inside.nodes.items in
    let many = slot_turned g.D.Device.state g.D.Device.honest g.D.Device.moment g.D.Device.left_since c.self.inside.shards had c.self.inside.flows.slots c.args.slot c.turn.result c.turn.new.nodes c.turn.new.flows.slots (subst (λ (ns : List (NodeView g.row.D.Denot)). MatchOption (flow_at c.self.inside.flows.slots c.args.slot) ((c.turn.result ≡ None) × (c.turn.new.nodes ≡ ns) × (c.turn.new.flows.slots ≡ c.self.inside.flows.slots)) (λ flow. SlotTurns g.D.Device.state g.D.Device.honest g.D.Device.moment g.D.Device.left_since c.self.inside.shards ns c.self.inside.flows.slots c.args.slot flow c.turn.result c.turn.new.nodes c.turn.new.flows.slots)) c.deref_mut.ensures.value c.turn.ensures.turns) in
    record { count = ap length (whole c.self.inside.nodes.len c.turn.new.nodes had c.self.inside.nodes.ok.0 many) ∙ many ∙ c.self.invariant.count; flows = c.turn.ensures.kept }

pub returns : goal.returns
returns g c =
    let view : WorldView g.row.D.Denot = record { store = c.self.inside.store; shards = c.self.inside.shards; nodes = c.self.inside.nodes.items; flows = c.self.inside.flows.slots } in
    let had = c.self.inside.nodes.items in
    let new = c.turn.new.nodes in
    let many = slot_turned g.D.Device.state g.D.Device.honest g.D.Device.moment g.D.Device.left_since c.self.inside.shards had c.self.inside.flows.slots c.args.slot c.turn.result new c.turn.new.flows.slots (subst (λ (ns : List (NodeView g.row.D.Denot)). MatchOption (flow_at c.self.inside.flows.slots c.args.slot) ((c.turn.result ≡ None) × (c.turn.new.nodes ≡ ns) × (c.turn.new.flows.slots ≡ c.self.inside.flows.slots)) (λ flow. SlotTurns g.D.Device.state g.D.Device.honest g.D.Device.moment g.D.Device.left_since c.self.inside.shards ns c.self.inside.flows.slots c.args.slot flow c.turn.result c.turn.new.nodes c.turn.new.flows.slots)) c.deref_mut.ensures.value c.turn.ensures.turns) in
    let given = take c.self.inside.nodes.len (new ++ drop (length new) had) in
    let same = whole c.self.inside.nodes.len new had c.self.inside.nodes.ok.0 many in
    let turns = subst (λ (ns : List (NodeView g.row.D.Denot)). MatchOption (flow_at view.flows c.args.slot) ((c.turn.result ≡ None) × (ns ≡ had) × (c.turn.new.flows.slots ≡ view.flows))
    (λ flow. SlotTurns g.D.Device.state g.D.Device.honest g.D.Device.moment g.D.Device.left_since view.shards had view.flows c.args.slot flow c.turn.result ns c.turn.new.flows.slots)) (sym same) (subst (λ (ns : List (NodeView g.row.D.Denot)). MatchOption (flow_at c.self.inside.flows.slots c.args.slot) ((c.turn.result ≡ None) × (c.turn.new.nodes ≡ ns) × (c.turn.new.flows.slots ≡ c.self.inside.flows.slots)) (λ flow. SlotTurns g.D.Device.state g.D.Device.honest g.D.Device.moment g.D.Device.left_since c.self.inside.shards ns c.self.inside.flows.slots c.args.slot flow c.turn.result c.turn.new.nodes c.turn.new.flows.slots)) c.deref_mut.ensures.value c.turn.ensures.turns) in
    turned g.D.Device.state g.D.Device.honest g.D.Device.moment g.D.Device.left_since view c.args.self.now c.args.slot c.turn.result given c.turn.new.flows.slots c.self.view_is turns
