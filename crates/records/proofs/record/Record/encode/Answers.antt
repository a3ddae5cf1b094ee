use Rattle.std.proofs.Common.{rules}
use Rattle.records.proofs.record.Record.encode.Goals as goal

pub returns-else-is_err-clause-err : goal.returns-else-is_err-clause-err
returns-else-is_err-clause-err c = search rules
