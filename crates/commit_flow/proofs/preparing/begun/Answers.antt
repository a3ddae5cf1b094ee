-- No shard was asked yet.
use Rattle.commit_flow.proofs.Ballots.{none_asked}
use Rattle.commit_flow.proofs.preparing.begun.Goals as goal

pub prepare_next-requires-clause-asked : goal.prepare_next-requires-clause-asked
prepare_next-requires-clause-asked c = none_asked c.args.load.shards c.in-Ok.intent.write c.args.load.tickets.items c.requires.1
