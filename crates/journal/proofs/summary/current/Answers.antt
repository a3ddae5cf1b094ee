use Rattle.std.proofs.Common.{inl, inr, ◌∙◌}
use Rattle.std.proofs.lemmas.Bool.{not-true, not-false}
use Rattle.journal.proofs.Summaries.{behind_if, none_current}
use Rattle.journal.proofs.summary.current.Goals.{else-not-b-via-then-not-b+else-b-eq0, else-not-b-via-else-not-b}
use Rattle.journal.proofs.summary.current.Goals as goal

pub returns-then-b-eq0 : goal.returns-then-b-eq0
returns-then-b-eq0 c = λ rs ss a_is b_is. none_current rs ss c.args.a c.args.b a_is b_is (not-true c.args.b.is_empty c.if-not-b.true) c.if-b-eq0.true

pub returns : goal.returns
returns c = λ rs ss a_is b_is. c.later.ensures ∙ behind_if rs ss c.args.a c.args.b a_is b_is
    (elim c.else-not-b.branch [
      | else-not-b-via-then-not-b+else-b-eq0 w ↦ inr (λ is. w.if-b-eq0.false is)
      | else-not-b-via-else-not-b w ↦ inl (not-false c.args.b.is_empty w.if-not-b.false)
    ])
