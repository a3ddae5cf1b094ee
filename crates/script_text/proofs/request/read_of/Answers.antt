use Rattle.std.proofs.Common.{arith}
use Rattle.std.proofs.lemmas.List.{length-map}
use Rattle.std.proofs.lemmas.Result.{err_from_is_err_and}
use Rattle.script_text.specs.Causes.{IsFresh}
use Rattle.script_text.specs.Shapes.{fresh_view}
use Rattle.script_text.specs.Words.{texts}
use Rattle.script_text.proofs.Causing.{sets_misspelled}
use Rattle.script_text.proofs.request.read_of.Goals as goal

pub returns-in_err-sets-clause-err : goal.returns-in_err-sets-clause-err
returns-in_err-sets-clause-err c =
    let p = err_from_is_err_and c.from_residual.result c.from_residual.ensures.1 in
    let long = length-map c.args.sets.now (λ w. w.now) in
    rw (p.1, p.2) (sets_misspelled c.args.store (texts c.args.sets.now) (λ IsBad. IsFresh IsBad (fresh_view c.args.freshness)) _ (omega arith) c.in_err-sets.ensures)
