-- The script is set at the node of the name, and nothing else of the store has changed.
use Rattle.std.proofs.Common.{◌≡◌, ◌∙◌, ◌++◌, List, MatchOption, ap, drop, length, subst, sym, take}
use Rattle.calls.specs.Views.{NodeView}
use Rattle.cluster.specs.Nodes.{IsSetIn}
use Rattle.cluster.specs.Worlds.{WorldView, node_at}
use Rattle.cluster.proofs.Counting.{script_set}
use Rattle.cluster.proofs.Places.{whole}
use Rattle.cluster.proofs.world.World.fail.Goals as goal

pub invariant_of-self : goal.invariant_of-self
invariant_of-self g c =
    let had = c.self.inside.nodes.items in
    let new = c.set_script.new.nodes in
    let Sets : List (NodeView g.row.D.Denot) → Type 0 = λ ns. MatchOption (node_at ns c.args.node) (new ≡ ns) (λ was. IsSetIn g.D.Device.set_to_fail g.D.Device.state g.D.Device.honest g.D.Device.moment g.D.Device.left_since c.args.bank c.args.n c.args.tear ns c.args.node was new) in
    let many = script_set g.D.Device.set_to_fail g.D.Device.state g.D.Device.honest g.D.Device.moment g.D.Device.left_since c.args.bank c.args.n c.args.tear had c.args.node new (subst Sets c.deref_mut.ensures.value c.set_script.ensures) in
    record { count = ap length (whole c.self.inside.nodes.len new had c.self.inside.nodes.ok.0 many) ∙ many ∙ c.self.invariant.count; flows = c.self.invariant.flows }

pub returns-clause-nodes : goal.returns-clause-nodes
returns-clause-nodes g c =
    let had = c.self.inside.nodes.items in
    let new = c.set_script.new.nodes in
    let Sets : List (NodeView g.row.D.Denot) → Type 0 = λ ns. MatchOption (node_at ns c.args.node) (new ≡ ns) (λ was. IsSetIn g.D.Device.set_to_fail g.D.Device.state g.D.Device.honest g.D.Device.moment g.D.Device.left_since c.args.bank c.args.n c.args.tear ns c.args.node was new) in
    let sets = subst Sets c.deref_mut.ensures.value c.set_script.ensures in
    let many = script_set g.D.Device.set_to_fail g.D.Device.state g.D.Device.honest g.D.Device.moment g.D.Device.left_since c.args.bank c.args.n c.args.tear had c.args.node new sets in
    let same = whole c.self.inside.nodes.len new had c.self.inside.nodes.ok.0 many in
    let all = subst (λ (ns : List (NodeView g.row.D.Denot)). MatchOption (node_at had c.args.node) (ns ≡ had) (λ was. IsSetIn g.D.Device.set_to_fail g.D.Device.state g.D.Device.honest g.D.Device.moment g.D.Device.left_since c.args.bank c.args.n c.args.tear had c.args.node was ns)) (sym same) sets in
    let given = take c.self.inside.nodes.len (new ++ drop (length new) had) in
    subst (λ (w : WorldView g.row.D.Denot). MatchOption (node_at w.nodes c.args.node) (given ≡ w.nodes) (λ was. IsSetIn g.D.Device.set_to_fail g.D.Device.state g.D.Device.honest g.D.Device.moment g.D.Device.left_since c.args.bank c.args.n c.args.tear w.nodes c.args.node was given)) c.self.view_is all

pub returns-clause-rest : goal.returns-clause-rest
returns-clause-rest g c =
    let had = c.self.inside.nodes.items in
    let new = c.set_script.new.nodes in
    let given = take c.self.inside.nodes.len (new ++ drop (length new) had) in
    ap (λ (w : WorldView g.row.D.Denot). record w { nodes = given }) c.self.view_is
