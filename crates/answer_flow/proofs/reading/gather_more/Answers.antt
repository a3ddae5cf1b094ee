-- The rows of one shard more are merged, and it goes on to the next shard, or is done.
use Rattle.std.proofs.Common.{◌≡◌, IsTrue, None, false, true, refl, inr, sym, ◌∙◌, arith}
use Rattle.answer_flow.specs.ReadViews.{holding}
use Rattle.answer_flow.proofs.reading.gather_more.Goals as goal

pub returns-then-has-clause-goes : goal.returns-then-has-clause-goes
returns-then-has-clause-goes c = inr (record {
  merged = c.in-Ok.rows.items;
  is_merged = λ left right. rw c.in-Ok.is at (c.merge.ensures left right);
  next = λ more. c.bring_up.ensures.view;
  last = λ none. absurd (let below = c.has.ensures.0 c.if-has.true in omega (arith, none, below));
})

pub returns-clause-goes : goal.returns-clause-goes
returns-clause-goes c = inr (record {
  merged = c.in-Ok.rows.items;
  is_merged = λ left right. rw c.in-Ok.is at (c.merge.ensures left right);
  next = λ more. absurd (let there : IsTrue c.has.result = c.has.ensures.1 (omega (arith, more)) in let e : false ≡ true = sym c.if-has.false ∙ there in cc);
  last = λ none. c.finish_one.ensures.goes (holding c.args.gathered None) refl;
})
