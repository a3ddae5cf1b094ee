-- The script is set at the node that stands where the name says.
use Rattle.std.proofs.Common.{ℕ, ap, refl, set, subst, sym}
use Rattle.calls.specs.Failing.{NodeIsSet}
use Rattle.calls.specs.Views.{NodeView}
use Rattle.cluster.specs.Worlds.{node_at}
use Rattle.cluster.proofs.Answering.{away, there}
use Rattle.cluster.proofs.Slots.{at_none, at_some}
use Rattle.cluster.proofs.world.set_script.Goals as goal

pub returns : goal.returns
returns g c =
    let old = c.args.nodes.now in
    let was = c.index-nodes-index.result in
    let set_one = subst (λ (w : NodeView g.row.D.Denot). NodeIsSet g.D.Device.set_to_fail g.D.Device.state g.D.Device.honest g.D.Device.moment g.D.Device.left_since c.args.bank c.args.n c.args.tear w c.fail.new.self) (sym c.index-nodes-index.is) c.fail.ensures in
    at_some (node_at old c.args.name) was _ _ (there old c.args.name c.index_of-index.result was c.index_of-index.ensures c.if-index-nodes.false c.index-nodes-index.is) (record {
      is = c.fail.new.self;
      is_set = set_one;
      new_is = ap (λ (i : ℕ). set old i c.fail.new.self) c.index_of-index.ensures;
    })

pub returns-then-index-nodes : goal.returns-then-index-nodes
returns-then-index-nodes g c = at_none (node_at c.args.nodes.now c.args.name) _ _ (away c.args.nodes.now c.args.name c.index_of-index.result c.index_of-index.ensures c.if-index-nodes.true) refl
