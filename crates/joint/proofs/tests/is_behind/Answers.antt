use Rattle.joint.proofs.Counting.{seen_behind}
use Rattle.joint.proofs.tests.is_behind.Goals as goal

pub returns-clause-behind : goal.returns-clause-behind
returns-clause-behind c = seen_behind c.args.pass.now c.args.count c.args.follower c.requires.parts c.look.ensures.seen
