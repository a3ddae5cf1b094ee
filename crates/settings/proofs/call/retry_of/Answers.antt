use Rattle.std.proofs.Common.{rules}
use Rattle.settings.proofs.call.retry_of.Goals as goal

pub returns-in-Some : goal.returns-in-Some
returns-in-Some c = search rules
