use Rattle.std.proofs.Common.{◌≡◌, sym, ◌∙◌, ap, Err}
use Rattle.std.proofs.lemmas.Result.{err_from_is_err_and}
use Rattle.tuples.specs.Parsing.{has_byte}
use Rattle.std.proofs.Common.{true}
use Rattle.refusal.specs.declared.refusal.Refusal.{Refusal}
use Rattle.refusal.specs.declared.refusal.Refusal.TheVariants.{BadTuple}
use Rattle.tuples.proofs.Selecting.{key_by_tuple}
use Rattle.tuples.proofs.tupleset.Tupleset.parse.Goals as goal

pub returns-in_err-parse-clause-bad : goal.returns-in_err-parse-clause-bad
returns-in_err-parse-clause-bad c was =
    let p = err_from_is_err_and c.from_residual.result c.from_residual.ensures.1 in
    let bad : p.0 ≡ BadTuple = cc (p.1, was) in
    let front = c.in-Some.front.now in
    let colon : has_byte 58 front ≡ true = sym c.if-contains.ensures.value in
    key_by_tuple c.args.text.now front c.in-Some.user.now c.in-Some.ensures colon (c.in_err-parse.ensures.bad (ap (λ (e : Refusal). Err e) (sym p.2 ∙ bad)))
