use Rattle.flights.proofs.Called.{stays_out}
use Rattle.flights.proofs.shard_place.ask_out.Goals as goal

pub returns-clause-out : goal.returns-clause-out
returns-clause-out g c = λ launches launch was.
    stays_out g.D.Device.state g.D.Device.honest g.B.Room.rests g.B.Room.shards launches c.args.side.now c.ask.new.self launch c.ask.ensures.answers.number c.ask.ensures.own
    (c.ask.ensures.sound was.2.sound) (c.ask.ensures.staged c.requires.no_flush was.2.sound) was
