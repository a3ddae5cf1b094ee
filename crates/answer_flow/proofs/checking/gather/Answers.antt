-- The rows do not have the user, and the first that waits is walked.
use Rattle.std.proofs.Common.{◌∙◌, List, Some, None, Contains, inr, sym, subst, true≢false}
use Rattle.tuples.specs.declared.tuple.Tuple.{Tuple}
use Rattle.tuples.specs.Checking.{holding}
use Rattle.answer_flow.specs.CheckViews.{holding_walk}
use Rattle.answer_flow.specs.Walking.{IsWalked}
use Rattle.answer_flow.proofs.Waiting.{some_first, walks}
use Rattle.answer_flow.proofs.checking.gather.Goals as goal

pub returns-in-Ok-clause-goes : goal.returns-in-Ok-clause-goes
returns-in-Ok-clause-goes c = λ y is.
    let waits = some_first c.args.walk.waiting y is in
    let walked = subst (λ (rows : List Tuple). IsWalked y waits.0 rows c.args.walk c.in-Ok.walk) c.deref-2.ensures.value (c.in-Ok.ensures y waits.0 waits.1) in
    record {
      yes = λ has. absurd (true≢false (sym ((c.is_found.ensures y is).1 (subst (λ (rows : List Tuple). Contains rows (holding y c.args.asked.now.user)) (sym c.deref.ensures.value) has)) ∙ c.if-is_found.false));
      further = λ not. inr (holding_walk c.in-Ok.walk (Some c.args.place) None, walks y waits.0 c.args.rows.items c.args.walk c.in-Ok.walk (Some c.args.place) None waits.1 walked, walked.walked, c.go_on.ensures.goes);
    }
