use Rattle.flights.proofs.Words.{launch_of}
use Rattle.flights.proofs.leaving.leave.Goals as goal

pub returns-clause-berth : goal.returns-clause-berth
returns-clause-berth g c = (launch_of c.args.journal c.args.flying, c.take_off-flight.ensures.known, c.requires.out)
