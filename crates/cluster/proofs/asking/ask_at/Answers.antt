-- The node that stands where the call's name says has answered it.
use Rattle.std.proofs.Common.{◌∙◌, ap, refl, subst, sym}
use Rattle.calls.specs.Names.{node_of}
use Rattle.calls.specs.Views.{NodeView}
use Rattle.cluster.specs.Nodes.{Answers}
use Rattle.cluster.specs.Worlds.{index_of, node_at}
use Rattle.cluster.proofs.Answering.{away, called_there}
use Rattle.cluster.proofs.Slots.{at_none}
use Rattle.cluster.proofs.asking.ask_at.Goals as goal

pub returns-clause-called : goal.returns-clause-called
returns-clause-called g c =
    let at = c.index_of-index.ensures ∙ ap index_of c.node.ensures in
    let was = c.index-nodes-index.result in
    called_there g.D.Device.state g.D.Device.honest g.D.Device.moment g.D.Device.left_since c.args.shards c.args.nodes.now c.args.call c.index_of-index.result was c.ask_one.new.node c.ask_one.result at c.if-index-nodes.false c.index-nodes-index.is
    (subst (λ (w : NodeView g.row.D.Denot). Answers g.D.Device.state g.D.Device.honest g.D.Device.moment g.D.Device.left_since c.args.shards w c.args.call c.ask_one.result c.ask_one.new.node) (sym c.index-nodes-index.is) c.ask_one.ensures.answers)

pub returns-then-index-nodes-clause-called : goal.returns-then-index-nodes-clause-called
returns-then-index-nodes-clause-called g c =
    let at = c.index_of-index.ensures ∙ ap index_of c.node.ensures in
    at_none (node_at c.args.nodes.now (node_of c.args.call)) _ _ (away c.args.nodes.now (node_of c.args.call) c.index_of-index.result at c.if-index-nodes.true) (refl, c.refuse.ensures.refuses)

pub returns-then-index-nodes-clause-belongs : goal.returns-then-index-nodes-clause-belongs
returns-then-index-nodes-clause-belongs g c = c.refuse.ensures.belongs

pub ask_one-requires : goal.ask_one-requires
ask_one-requires g c = c.requires

pub returns-clause-belongs : goal.returns-clause-belongs
returns-clause-belongs g c = c.ask_one.ensures.belongs
