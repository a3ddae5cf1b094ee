use Rattle.std.proofs.Common.{◌++◌, ◌∷◌, [], List, ap, length, arith, rules, subst, sym}
use Rattle.std.proofs.lemmas.List.{length-append}
use Rattle.std.specs.declared.snapshot.Snapshot.{Snapshot}
use Rattle.serving.specs.Working.{AreServed, HasServed}
use Rattle.serving.proofs.OneMore.{one_more}
use Rattle.serving.proofs.working.Worker.work.Goals as goal

pub loop-preserved : goal.loop-preserved
loop-preserved g c =
    let Answering : Type 0 = g.row.F-Session.Denot in
    let begins = g.F.Fork.begins in
    let store = g.F.Session.Answers.store in
    let gives = g.F.Session.Answers.gives in
    let begun : begins c.of-begun.result.value = subst begins (sym c.of-begun.ensures) c.another-answers.ensures in
    let asked : HasServed store gives c.of-begun.result.value c.serve.new.answers = subst (λ (first : Answering). HasServed store gives first c.serve.new.answers) (sym c.of-begun.ensures) c.serve.ensures.asked in
    let one : AreServed begins store gives (c.loop.served.items ++ (c.of-begun.result, c.serve.new.answers) ∷ []) = one_more begins store gives c.loop.served.items c.of-begun.result c.serve.new.answers c.loop.invariant.served begun asked in
    let len = length-append c.loop.served.items ((c.of-begun.result, c.serve.new.answers) ∷ []) in
    record {
      hall = search rules;
      served = subst (AreServed begins store gives) (sym c.and-served.ensures) one;
      each = omega (arith, ap (λ (items : List (Snapshot Answering × Answering)). length items) c.and-served.ensures, len, c.loop.invariant.each, c.in-Some-next.ensures.some);
    }
