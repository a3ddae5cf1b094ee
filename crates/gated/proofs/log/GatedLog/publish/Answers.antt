use Rattle.std.proofs.Common.{sym}
use Rattle.gated.proofs.log.GatedLog.publish.Goals as goal

pub returns-in-Ok-clause-any_moment : goal.returns-in-Ok-clause-any_moment
returns-in-Ok-clause-any_moment g c = rw (sym c.self.view_is) c.open_ahead.ensures.any_moment

pub returns-in-Err-clause-any_moment : goal.returns-in-Err-clause-any_moment
returns-in-Err-clause-any_moment g c = rw (sym c.self.view_is) c.open_ahead.ensures.any_moment
