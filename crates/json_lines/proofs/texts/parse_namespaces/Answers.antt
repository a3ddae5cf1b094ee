use Rattle.std.proofs.Common.{arith, ◌∙◌, sym}
use Rattle.std.proofs.lemmas.Result.{err_from_is_err_and}
use Rattle.json_lines.proofs.Spelled.{names_more, names_refused}
use Rattle.json_lines.proofs.texts.parse_namespaces.Goals as goal

pub returns-in_err-parse : goal.returns-in_err-parse
returns-in_err-parse c =
    let p = err_from_is_err_and c.from_residual-in_err-parse.result c.from_residual-in_err-parse.ensures.1 in
    let bad = rw c.as_bytes.ensures.value at c.in_err-parse.ensures.value in
    rw (p.1, p.2) (names_refused (λ t. t.now) c.args.texts.now c.loop-text.text-index _ _ c.loop-text-test.true bad)

pub loop-text-preserved : goal.loop-text-preserved
loop-text-preserved c =
    let ok = c.in_ok-parse.ensures.value in
    let more = names_more (λ t. t.now) c.args.texts.now c.loop-text.names.items c.push_reserved.new.self.items c.loop-text.text-index _ c.in_ok-parse.field-0 c.loop-text-test.true (c.loop-text.invariant.0, c.loop-text.invariant.1) ok.0 (sym c.as_bytes.ensures.value ∙ ok.1) c.push_reserved.ensures.items in
    (more.0, more.1, omega arith, omega arith)
