use Rattle.journal.specs.Sources.{record_of}
use Rattle.journal.proofs.Measured.{len_of_one}
use Rattle.journal.proofs.measure.record_len.Goals as goal

pub returns-clause-len : goal.returns-clause-len
returns-clause-len c = len_of_one (record_of c.args.next) c.put_first.new.piece c.size-size.result c.put_first.ensures c.size-size.ensures.all c.size-size.ensures.sent
