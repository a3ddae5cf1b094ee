use Rattle.std.proofs.Common.{arith}
use Rattle.std.proofs.lemmas.Result.{err_from_is_err_and}
use Rattle.json_lines.proofs.Spelled.{names_more, names_refused}
use Rattle.script_text.proofs.texts.parse_namespaces.Goals as goal

pub returns-in_err-parse : goal.returns-in_err-parse
returns-in_err-parse c =
    let p = err_from_is_err_and c.from_residual-in_err-parse.result c.from_residual-in_err-parse.ensures.1 in
    rw (p.1, p.2) (names_refused (λ w. w.now) c.args.words.now c.loop-word.word-index _ _ c.loop-word-test.true c.in_err-parse.ensures.value)

pub loop-word-preserved : goal.loop-word-preserved
loop-word-preserved c =
    let ok = c.in_ok-parse.ensures.value in
    let more = names_more (λ w. w.now) c.args.words.now c.loop-word.names.items c.push_reserved.new.self.items c.loop-word.word-index _ c.in_ok-parse.field-0 c.loop-word-test.true (c.loop-word.invariant.0, c.loop-word.invariant.1) ok.0 ok.1 c.push_reserved.ensures.items in
    (more.0, more.1, omega arith, omega arith)
