use Rattle.std.proofs.Common.{sym, subst}
use Rattle.locked.proofs.Words.{Coordinator, IsTried, Serves, TellsWriter}
use Rattle.calls.specs.declared.call.CoordinatorCall.{CoordinatorCall}
use Rattle.flights.specs.LogPlaces.{tried_at}
use Rattle.locked.proofs.Served.{log_flush_serves}
use Rattle.locked.proofs.Serving.{log_serves, tells_writers}
use Rattle.locked.proofs.store.Store.make_there.Goals as goal

pub returns-in-Flush-clause-serves : goal.returns-in-Flush-clause-serves
returns-in-Flush-clause-serves g c =
    subst (λ (call : CoordinatorCall). Serves g.B.Room.rests g.B.Room.shards c.args.caller.now.pass c.flush.new.caller.pass (Coordinator call) c.flush.result) (sym c.in-Flush.is)
    (log_flush_serves g.B.Room.rests g.B.Room.shards c.args.caller.now.pass c.flush.new.caller.pass c.flush.result c.flush.ensures.caller c.flush.ensures.belongs)

pub returns-in-Flush-clause-tells : goal.returns-in-Flush-clause-tells
returns-in-Flush-clause-tells g c = λ rests asked above le. subst (λ (call : CoordinatorCall). TellsWriter (IsTried c.flush.new.caller.tried.seen) asked above c.flush.new.caller.pass.seen (Coordinator call) c.flush.result) (sym c.in-Flush.is) tt

pub returns-in_default-clause-serves : goal.returns-in_default-clause-serves
returns-in_default-clause-serves g c =
    log_serves g.B.Room.shards c.args.caller.now.pass c.ask.new.caller.pass c.ask.new.caller.tried.seen g.B.Room.rests c.args.call c.ask.result c.ask.ensures.tells c.ask.ensures.caller c.ask.ensures.belongs

pub returns-in_default-clause-tells : goal.returns-in_default-clause-tells
returns-in_default-clause-tells g c = λ rests.
    tells_writers g.B.Room.shards c.args.caller.now.pass c.ask.new.caller.pass c.ask.new.caller.tried.seen (tried_at c.deref_mut.result.now) c.args.call c.ask.result c.ask.ensures.known c.ask.ensures.caller (c.ask.ensures.tells rests)
