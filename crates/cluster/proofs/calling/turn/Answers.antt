-- The call that the flow asks for is answered among the nodes, and the flow is given the reply.
use Rattle.cluster.proofs.calling.turn.Goals as goal

pub ask_at-reply-requires : goal.ask_at-reply-requires
ask_at-reply-requires g c = c.next_call-call.ensures.owed c.args.shards c.requires

pub give-requires : goal.give-requires
give-requires g c = c.next_call-call.ensures.awaits c.ask_at-reply.result c.ask_at-reply.ensures.belongs

pub returns-clause-of : goal.returns-clause-of
returns-clause-of g c = c.give.ensures.of c.args.shards (c.next_call-call.ensures.of c.args.shards c.requires)
