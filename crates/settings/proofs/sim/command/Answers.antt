use Rattle.std.proofs.Common.{rules}
use Rattle.settings.proofs.sim.command.Goals as goal

pub returns-clause-ok : goal.returns-clause-ok
returns-clause-ok c = search rules
