use Rattle.std.proofs.Common.{rules}
use Rattle.records.proofs.unread.Unread.refusal.Goals as goal

pub returns-in-NoMemory : goal.returns-in-NoMemory
returns-in-NoMemory c = search rules
