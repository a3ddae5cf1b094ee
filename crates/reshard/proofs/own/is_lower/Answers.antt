use Rattle.std.proofs.Common.{rules}
use Rattle.reshard.proofs.own.is_lower.Goals as goal

pub returns-in-Some-Some : goal.returns-in-Some-Some
returns-in-Some-Some c = search rules
