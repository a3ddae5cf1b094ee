use Rattle.std.proofs.Common.{rules}
use Rattle.records.specs.Reading.{epoch_at}
use Rattle.records.proofs.decode.epoch_of.Goals as goal

pub returns : goal.returns
unfolding epoch_at
returns c = search rules
