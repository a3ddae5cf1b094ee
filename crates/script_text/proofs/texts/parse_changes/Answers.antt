use Rattle.std.proofs.Common.{List, map, sym, subst, ap, ◌∙◌, arith}
use Rattle.std.specs.List.{All}
use Rattle.std.proofs.lemmas.Result.{err_from_is_err_and}
use Rattle.tuples.specs.declared.change.Change.{Change}
use Rattle.tuples.specs.Changes.{changed, tuple_of}
use Rattle.tuples.specs.Texts.{IsTuple}
use Rattle.tuples.proofs.Kept.{valid_pushed}
use Rattle.script_text.specs.Texts.{change_text}
use Rattle.script_text.proofs.Parts.{changes_refused}
use Rattle.script_text.proofs.texts.parse_changes.Goals as goal
use Rattle.json_lines.proofs.Values.{map_more}

pub returns-in_err-parse_change : goal.returns-in_err-parse_change
returns-in_err-parse_change c =
    let p = err_from_is_err_and c.from_residual-in_err-parse_change.result c.from_residual-in_err-parse_change.ensures.1 in
    rw (p.1, p.2) (changes_refused c.args.words.now c.loop-word.word-index _ _ (omega arith) c.in_err-parse_change.ensures)

pub loop-word-preserved : goal.loop-word-preserved
loop-word-preserved c =
    let changes = c.loop-word.changes.items in
    let change = c.in_ok-parse_change.field-0 in
    let items = c.push_reserved.ensures.items in
    (map_more (λ w. w.now) change_text c.args.words.now changes c.loop-word.word-index _ change (omega arith) c.loop-word.invariant.0 c.in_ok-parse_change.ensures.1 ∙ ap (map change_text) (sym {A = List Change} items), subst (λ (x : List Change). All IsTuple (changed x)) (sym {A = List Change} items) (valid_pushed tuple_of changes change c.loop-word.invariant.1 c.in_ok-parse_change.ensures.0), omega arith, omega arith)
