use Rattle.std.proofs.Common.{rules}
use Rattle.records.specs.Reading.{conditions_at}
use Rattle.records.proofs.read_write.conditions_of.Goals as goal

pub returns : goal.returns
unfolding conditions_at
returns c = search rules
