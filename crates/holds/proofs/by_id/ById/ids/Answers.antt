use Rattle.std.proofs.Common.{◌∙◌, List, ap, subst}
use Rattle.std.proofs.lemmas.Result.{IfOk-weaker}
use Rattle.tuples.specs.declared.entry.Entry.{Entry}
use Rattle.holds.specs.Holds.{AreAscendingIds, ids}
use Rattle.holds.proofs.ById.{ids_ascend, keys_are}
use Rattle.holds.proofs.by_id.ById.ids.Goals as goal

pub returns-clause-ascending : goal.returns-clause-ascending
returns-clause-ascending c = subst (λ (ws : List Entry). AreAscendingIds (ids ws)) c.self.view_is (ids_ascend c.self.inside.writes.entries c.self.invariant)

pub returns-clause-all : goal.returns-clause-all
returns-clause-all c = IfOk-weaker c.ids_of.result _ _ (λ v is. is ∙ keys_are c.self.inside.writes.entries c.self.invariant.own ∙ ap ids c.self.view_is) c.ids_of.ensures
