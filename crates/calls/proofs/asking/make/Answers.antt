use Rattle.std.proofs.Common.{rules}
use Rattle.calls.proofs.asking.make.Goals as goal

pub returns-in-Refused : goal.returns-in-Refused
returns-in-Refused g c = search rules
