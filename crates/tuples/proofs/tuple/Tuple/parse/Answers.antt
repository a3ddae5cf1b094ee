use Rattle.std.proofs.Common.{◌≡◌, sym, ◌∙◌}
use Rattle.std.proofs.lemmas.Result.{err_from_is_err_and}
use Rattle.tuples.specs.Texts.{IsUserset, IsUser, userset_text, user_text}
use Rattle.refusal.specs.declared.refusal.Refusal.TheVariants.{BadTuple}
use Rattle.tuples.proofs.Spelling.{spells_none, tuple_by_front, tuple_by_user}
use Rattle.tuples.proofs.tuple.Tuple.parse.Goals as goal

pub returns-in_err-object-clause-bad : goal.returns-in_err-object-clause-bad
returns-in_err-object-clause-bad c was =
    let p = err_from_is_err_and c.from_residual.result c.from_residual.ensures.1 in
    let bad : p.0 ≡ BadTuple = cc (p.1, was) in
    let front = c.in-Some.front.now in
    tuple_by_front c.args.text.now front c.in-Some.user.now c.in-Some.ensures (spells_none IsUserset userset_text front _ c.in_err-object.ensures (sym p.2 ∙ bad))

pub returns-in_err-user-clause-bad : goal.returns-in_err-user-clause-bad
returns-in_err-user-clause-bad c was =
    let p = err_from_is_err_and c.from_residual-in_err-user.result c.from_residual-in_err-user.ensures.1 in
    let bad : p.0 ≡ BadTuple = cc (p.1, was) in
    let user = c.in-Some.user.now in
    tuple_by_user c.args.text.now c.in-Some.front.now user c.in-Some.ensures (spells_none IsUser user_text user _ c.in_err-user.ensures (sym p.2 ∙ bad))
