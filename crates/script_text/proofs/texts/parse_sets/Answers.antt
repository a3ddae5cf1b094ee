use Rattle.std.proofs.Common.{arith, ap, Err}
use Rattle.std.proofs.lemmas.Result.{err_from_is_err_and}
use Rattle.tuples.specs.Texts.{IsTupleset, tupleset_text}
use Rattle.refusal.specs.declared.refusal.Refusal.{Refusal}
use Rattle.json_lines.proofs.Spelled.{misspelled, texts_more, texts_refused}
use Rattle.script_text.proofs.texts.parse_sets.Goals as goal

pub returns-in_err-parse : goal.returns-in_err-parse
returns-in_err-parse c =
    let p = err_from_is_err_and c.from_residual-in_err-parse.result c.from_residual-in_err-parse.ensures.1 in
    rw (p.1, p.2) (texts_refused (λ w. w.now) tupleset_text IsTupleset c.args.words.now c.loop-word.word-index _ _ c.loop-word-test.true
    (misspelled _ _ c.in_err-parse.ensures.err (λ was q h. c.in_err-parse.ensures.bad (ap (λ (e : Refusal). Err e) was) q h.0 h.1)))

pub loop-word-preserved : goal.loop-word-preserved
loop-word-preserved c =
    (texts_more (λ w. w.now) tupleset_text IsTupleset c.args.words.now c.loop-word.sets.items c.push_reserved.new.self.items c.loop-word.word-index _ c.in_ok-parse.field-0 c.loop-word-test.true c.loop-word.invariant.0 c.in_ok-parse.ensures.ok.0 c.in_ok-parse.ensures.ok.1 c.push_reserved.ensures.items, omega arith, omega arith)
