use Rattle.std.proofs.Common.{inl, refl, subst, sym, IfOk, IfErr}
use Rattle.std.proofs.lemmas.Result.{err_from_is_err_and}
use Rattle.script_text.specs.Causes.{WordsCause}
use Rattle.script_text.specs.Lines.{SpellsWords}
use Rattle.script_text.specs.Shapes.{shape_view}
use Rattle.script_text.specs.Words.{texts}
use Rattle.script_text.proofs.Causing.{asked_cause, words_refused}
use Rattle.script_text.proofs.command.parse_words.Goals as goal

pub returns-in-Some-clause-ok : goal.returns-in-Some-clause-ok
returns-in-Some-clause-ok c = subst (λ l. IfOk c.parse_start.result (SpellsWords c.args.store c.args.shards c.args.running.now l)) (sym c.in-Some.ensures) (c.parse_start.ensures.ok c.args.shards)

pub returns-in-Some-clause-err : goal.returns-in-Some-clause-err
returns-in-Some-clause-err c = subst (λ l. IfErr c.parse_start.result (WordsCause c.args.store c.args.shards c.args.running.now l)) (sym c.in-Some.ensures) (c.parse_start.ensures.err c.args.shards)

pub returns-in_err-request_of-clause-err : goal.returns-in_err-request_of-clause-err
returns-in_err-request_of-clause-err c =
    let p = err_from_is_err_and c.from_residual.result c.from_residual.ensures.1 in
    rw (p.1, p.2) (asked_cause c.args.store c.args.shards c.args.running.now (texts c.args.words.now) (texts c.args.words.now) (shape_view c.in-Some-shape_of.shape) _ (inl refl) c.in-Some-shape_of.ensures c.in_err-request_of.ensures.err)

pub returns-in_default-parse_order-clause-err : goal.returns-in_default-parse_order-clause-err
returns-in_default-parse_order-clause-err c =
    words_refused c.args.store c.args.shards c.args.running.now (texts c.args.words.now) (c.in_default-parse_order.ensures c.args.store) c.in_default-shape_of.ensures c.in_default.ensures
