use Rattle.std.proofs.Common.{arith, ap, ◌∙◌, sym, Err}
use Rattle.std.proofs.lemmas.Result.{err_from_is_err_and}
use Rattle.tuples.specs.Texts.{IsTupleset, tupleset_text}
use Rattle.refusal.specs.declared.refusal.Refusal.{Refusal}
use Rattle.json_lines.proofs.Spelled.{misspelled, texts_more, texts_refused}
use Rattle.json_lines.proofs.texts.parse_sets.Goals as goal

pub returns-in_err-parse : goal.returns-in_err-parse
returns-in_err-parse c =
    let p = err_from_is_err_and c.from_residual-in_err-parse.result c.from_residual-in_err-parse.ensures.1 in
    let bad = rw c.as_bytes.ensures.value at c.in_err-parse.ensures.bad in
    rw (p.1, p.2) (texts_refused (λ t. t.now) tupleset_text IsTupleset c.args.texts.now c.loop-text.text-index _ _ c.loop-text-test.true
    (misspelled _ _ c.in_err-parse.ensures.err (λ was q h. bad (ap (λ (e : Refusal). Err e) was) q h.0 h.1)))

pub loop-text-preserved : goal.loop-text-preserved
loop-text-preserved c =
    (texts_more (λ t. t.now) tupleset_text IsTupleset c.args.texts.now c.loop-text.sets.items c.push_reserved.new.self.items c.loop-text.text-index _ c.in_ok-parse.field-0 c.loop-text-test.true c.loop-text.invariant.0 c.in_ok-parse.ensures.ok.0 (sym c.as_bytes.ensures.value ∙ c.in_ok-parse.ensures.ok.1) c.push_reserved.ensures.items, omega arith, omega arith)
