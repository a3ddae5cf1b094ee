use Rattle.std.proofs.Common.{arith}
use Rattle.std.proofs.lemmas.Grind.{common_steps}
use Rattle.records.specs.Format.{record_bytes}
use Rattle.records.proofs.encode.put_row.Goals as goal

pub returns : goal.returns
unfolding record_bytes
returns c = grind (arith, common_steps)
