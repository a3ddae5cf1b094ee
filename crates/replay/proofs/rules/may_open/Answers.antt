use Rattle.std.proofs.Common.{rules}
use Rattle.replay.proofs.rules.may_open.Goals as goal

pub returns : goal.returns
returns c = search rules
