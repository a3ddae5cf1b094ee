use Rattle.std.proofs.Common.{rules}
use Rattle.replay.proofs.inside_rules.may_end.Goals as goal

pub returns : goal.returns
returns c = search rules
