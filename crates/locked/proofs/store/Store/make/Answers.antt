use Rattle.std.proofs.Common.{sym, subst}
use Rattle.locked.proofs.Words.{IsTried, NodeCall, Reply, TellsWriter}
use Rattle.locked.proofs.store.Store.make.Goals as goal
use Rattle.locked.proofs.store.Store.make.Goals.{in-Coordinator, in-Shard}

pub returns-clause-tells : goal.returns-clause-tells
returns-clause-tells g c = λ rests asked above le.
    let now = c.match-call.caller in
    elim c.match-call.branch [
      | in-Coordinator w ↦
          subst (λ (r : Reply). TellsWriter (IsTried now.tried.seen) asked above now.pass.seen c.args.call r) (sym w.reply-is)
          (subst (λ k. TellsWriter (IsTried k.tried.seen) asked above k.pass.seen c.args.call w.make_there-reply.result) (sym w.caller-is)
          (subst (λ (call : NodeCall). TellsWriter (IsTried w.make_there-reply.new.caller.tried.seen) asked above w.make_there-reply.new.caller.pass.seen call w.make_there-reply.result) (sym w.in-Coordinator.is)
          (w.make_there-reply.ensures.tells rests asked above le)))
      | in-Shard w ↦ subst (λ (call : NodeCall). TellsWriter (IsTried now.tried.seen) asked above now.pass.seen call c.match-call.reply) (sym w.in-Shard.is) tt
    ]
