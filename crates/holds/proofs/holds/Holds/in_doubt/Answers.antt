use Rattle.std.proofs.Common.{◌∙◌, ap, sym, subst}
use Rattle.std.proofs.lemmas.Result.{IfOk-weaker}
use Rattle.holds.specs.Holds.{AreAscendingIds, ids}
use Rattle.holds.proofs.holds.Holds.in_doubt.Goals as goal

pub returns-clause-exact : goal.returns-clause-exact
returns-clause-exact c = IfOk-weaker c.ids.result _ _ (λ v is. is ∙ ap ids c.self.view_is) c.ids.ensures.all

pub returns-clause-ascending : goal.returns-clause-ascending
returns-clause-ascending c = IfOk-weaker c.ids.result _ _ (λ v is. subst AreAscendingIds (sym is) c.ids.ensures.ascending) c.ids.ensures.all
