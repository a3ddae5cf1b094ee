use Rattle.std.proofs.Common.{arith}
use Rattle.shard.proofs.Openings.{most_openings}
use Rattle.shard.proofs.opening.ShardKindNodeKind.epoch.Goals as goal

pub returns-clause-fits : goal.returns-clause-fits
returns-clause-fits c = λ me rs image is. let same = is.epoch in let e = c.epoch.ensures in omega (arith, most_openings me rs image, same, e)
