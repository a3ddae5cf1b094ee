use Rattle.std.proofs.Common.{rules}
use Rattle.client.proofs.advising.is_sent_again.Goals as goal

pub returns-in-Busy : goal.returns-in-Busy
returns-in-Busy c = search rules
