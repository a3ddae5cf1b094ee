use Rattle.std.proofs.Common.{rules}
use Rattle.client.proofs.advising.refusal_of.Goals as goal

pub returns-in-9 : goal.returns-in-9
returns-in-9 c = search rules
