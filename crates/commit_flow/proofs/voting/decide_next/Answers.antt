-- All have voted.
use Rattle.commit_flow.proofs.Ballots.{have_voted}
use Rattle.commit_flow.proofs.voting.decide_next.Goals as goal

pub new-requires : goal.new-requires
new-requires c = have_voted c.args.load.shards c.args.intent.write c.args.load.votes.items c.requires.all c.requires.own
