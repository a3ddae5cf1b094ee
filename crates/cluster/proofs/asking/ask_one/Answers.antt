-- The node is the one that the call names, so it may be asked.
use Rattle.std.proofs.Common.{subst}
use Rattle.calls.proofs.Belonging.{may_ask}
use Rattle.calls.specs.Belonging.{IsNodeOf}
use Rattle.names.specs.declared.node_name.NodeName.{NodeName}
use Rattle.cluster.proofs.asking.ask_one.Goals as goal

pub ask-requires : goal.ask-requires
ask-requires g c =
    let is = c.is_node.ensures.0 c.if-is_node.true in
    may_ask c.args.shards c.args.node.now c.args.call c.requires (subst (λ (n : NodeName). IsNodeOf c.args.shards n c.args.node.now) c.node.ensures is)
