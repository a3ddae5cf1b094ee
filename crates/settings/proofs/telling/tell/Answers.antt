use Rattle.std.proofs.Common.{rules}
use Rattle.settings.proofs.telling.tell.Goals as goal

pub returns-then-use_stderr : goal.returns-then-use_stderr
returns-then-use_stderr g c = search rules

pub returns-else-use_stderr : goal.returns-else-use_stderr
returns-else-use_stderr g c = search rules
