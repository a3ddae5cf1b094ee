use Rattle.std.proofs.Common.{rules}
use Rattle.records.specs.Reading.{batch, version_of}
use Rattle.records.proofs.decode.batch_of.Goals as goal

pub returns-in-1 : goal.returns-in-1
unfolding batch version_of
returns-in-1 c = search rules
