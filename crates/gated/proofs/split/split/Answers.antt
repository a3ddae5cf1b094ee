use Rattle.std.proofs.Common.{ℕ, ◌+◌, List, length, sym, subst, arith, Result, Ok, Err, IfErr}
use Rattle.std.proofs.lemmas.Grind.{common_steps}
use Rattle.gated.proofs.Splitting.{Reads, reads_more, reads_damaged, take-left}
use Rattle.gated.proofs.split.split.Goals as goal

anyhow : {T E : Type 0} (r : Result T E) (Q : E → Type 0) (P : Type 0) → P → IfErr r (λ e. Q e → P)
anyhow (Ok x) Q P p = tt
anyhow (Err e) Q P p = λ _. p

pub returns-in_err-body-clause-damaged : goal.returns-in_err-body-clause-damaged
returns-in_err-body-clause-damaged c =
    let broken = rw (c.in_err-body.ensures.ok_part, take-left c.loop-end.end c.args.content.now) at c.whole_body.ensures in
    anyhow _ _ _ (reads_damaged c.args.content.now _ c.loop-end.end c.loop-end.invariant c.loop-end-test.true broken)

pub loop-end-preserved : goal.loop-end-preserved
loop-end-preserved c =
    let content = c.args.content.now in
    let body = rw (c.in_ok-body.ensures.ok_part, take-left c.loop-end.end content) at c.whole_body.ensures in
    subst (λ (l : List (List ℕ)). Reads content l (c.loop-end.end + (5 + length c.in_ok-body.body.now))) (sym c.in-Ok.ensures)
    (reads_more content _ c.loop-end.end c.loop-end.invariant c.in_ok-body.body.now _ (λ i. let fits = c.type_inv.content i in omega (arith, fits)) c.loop-end-test.true body.0 body.1 (omega arith))

pub returns-clause-ok : goal.returns-clause-ok
returns-clause-ok c = grind (arith, common_steps)
