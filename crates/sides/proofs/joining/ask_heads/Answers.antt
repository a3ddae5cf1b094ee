use Rattle.sides.proofs.LogJoins.{heads_are_told}
use Rattle.sides.proofs.joining.ask_heads.Goals as goal

pub returns-clause-same : goal.returns-clause-same
returns-clause-same g c = (heads_are_told g.D.Device.state g.D.Device.honest g.D.Device.moment g.D.Device.left_since c.args.node.now c.ask_coordinator-reply.new.node c.ask_coordinator-reply.result c.ask_coordinator-reply.ensures.answered).0
