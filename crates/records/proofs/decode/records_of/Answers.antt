use Rattle.std.proofs.Common.{rules}
use Rattle.records.specs.Reading.{records_at}
use Rattle.records.proofs.decode.records_of.Goals as goal

pub returns : goal.returns
unfolding records_at
returns c = search rules
