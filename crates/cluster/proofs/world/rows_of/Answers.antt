-- The node that stands where the shard's name says tells its rows.
use Rattle.std.proofs.Common.{refl}
use Rattle.names.specs.declared.node_name.NodeName.TheVariants.{Shard}
use Rattle.cluster.specs.Worlds.{node_at}
use Rattle.cluster.proofs.Answering.{away, there}
use Rattle.cluster.proofs.Slots.{at_none, at_some}
use Rattle.cluster.proofs.world.rows_of.Goals as goal

pub returns : goal.returns
returns g c =
    let was = c.index-nodes-index.result in
    at_some (node_at c.args.nodes.now (Shard c.args.shard)) was _ _ (there c.args.nodes.now (Shard c.args.shard) c.index_of-index.result was c.index_of-index.ensures c.if-index-nodes.false c.index-nodes-index.is)
    c.rows.ensures

pub returns-then-index-nodes : goal.returns-then-index-nodes
returns-then-index-nodes g c = at_none (node_at c.args.nodes.now (Shard c.args.shard)) _ _ (away c.args.nodes.now (Shard c.args.shard) c.index_of-index.result c.index_of-index.ensures c.if-index-nodes.true) refl
