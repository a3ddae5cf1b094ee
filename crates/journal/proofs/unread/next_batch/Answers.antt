use Rattle.std.proofs.Common.{rules}
use Rattle.journal.proofs.unread.next_batch.Goals as goal

pub returns-clause-ok : goal.returns-clause-ok
returns-clause-ok c = search rules
