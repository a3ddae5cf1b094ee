use Rattle.std.proofs.Common.{rules}
use Rattle.replay.proofs.inside_rules.may_take_row.Goals as goal

pub returns-then-last-place : goal.returns-then-last-place
returns-then-last-place c = search rules
