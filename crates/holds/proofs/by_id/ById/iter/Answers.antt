use Rattle.std.proofs.Common.{List, subst}
use Rattle.tuples.specs.declared.entry.Entry.{Entry}
use Rattle.holds.specs.Holds.{AreAscendingIds, ids}
use Rattle.holds.proofs.ById.{ids_ascend}
use Rattle.holds.proofs.by_id.ById.iter.Goals as goal

pub returns-clause-ascending : goal.returns-clause-ascending
returns-clause-ascending c = subst (λ (ws : List Entry). AreAscendingIds (ids ws)) c.self.view_is (ids_ascend c.self.inside.writes.entries c.self.invariant)
