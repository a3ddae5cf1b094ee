-- The node that stands where the name says.
use Rattle.cluster.proofs.Answering.{away, there}
use Rattle.cluster.proofs.world.node_of.Goals as goal

pub returns : goal.returns
returns g c = there c.args.nodes.now c.args.name c.index_of-index.result c.index-nodes-index.result c.index_of-index.ensures c.if-index-nodes.false c.index-nodes-index.is

pub returns-then-index-nodes : goal.returns-then-index-nodes
returns-then-index-nodes g c = away c.args.nodes.now c.args.name c.index_of-index.result c.index_of-index.ensures c.if-index-nodes.true
