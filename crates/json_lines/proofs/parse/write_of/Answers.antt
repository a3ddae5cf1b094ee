use Rattle.std.proofs.Common.{◌≡◌, ◌≤◌, length, arith, sym, ap, ◌∙◌, map, subst, Err}
use Rattle.std.proofs.lemmas.List.{length-map}
use Rattle.std.proofs.lemmas.Result.{err_from_is_err_and}
use Rattle.tuples.specs.Changes.{changed, conditioned}
use Rattle.refusal.specs.declared.refusal.Refusal.{Refusal}
use Rattle.json_lines.specs.Causes.{AreTuples, conditioned_text}
use Rattle.json_lines.specs.Lines.{written_change, written_condition}
use Rattle.json_lines.specs.Shapes.{change_json, condition_json}
use Rattle.json_lines.proofs.Causing.{changes_misspelled, conditions_misspelled, conditions_unplaced, in_limits, write_refused}
use Rattle.json_lines.proofs.parse.write_of.Goals as goal

pub returns-in_err-changes-clause-err : goal.returns-in_err-changes-clause-err
returns-in_err-changes-clause-err c =
    let p = err_from_is_err_and c.from_residual.result c.from_residual.ensures.1 in
    rw (p.1, p.2) (changes_misspelled c.args.store c.args.changes.now c.args.conditions.now _ (omega arith, omega arith) c.in_err-changes.ensures)

pub returns-in_err-tuples-clause-err : goal.returns-in_err-tuples-clause-err
returns-in_err-tuples-clause-err c =
    let p = err_from_is_err_and c.from_residual-in_err-tuples.result c.from_residual-in_err-tuples.ensures.1 in
    rw (p.1, p.2) (conditions_misspelled c.args.store c.args.changes.now c.args.conditions.now _ (omega arith, omega arith) c.in_err-tuples.ensures)

pub returns-in_err-conditions-clause-err : goal.returns-in_err-conditions-clause-err
returns-in_err-conditions-clause-err c =
    let p = err_from_is_err_and c.from_residual-in_err-conditions.result c.from_residual-in_err-conditions.ensures.1 in
    rw (p.1, p.2) (conditions_unplaced c.args.store c.args.changes.now c.args.conditions.now _ (omega arith, omega arith)
    (changed c.in_ok-changes.changes.items, c.in_ok-tuples.tuples.items, c.in_ok-changes.ensures.1, c.in_ok-tuples.ensures) c.in_err-conditions.ensures.err)

pub returns-in_err-write-clause-err : goal.returns-in_err-write-clause-err
returns-in_err-write-clause-err c =
    let p = err_from_is_err_and c.from_residual-in_err-write.result c.from_residual-in_err-write.ensures.1 in
    let new = c.in_err-write.ensures in
    let made = c.in_ok-conditions.ensures.ok in
    let changes = c.in_ok-changes.changes.items in
    let conditions = c.in_ok-conditions.conditions.items in
    let long : length c.args.changes.now ≡ length changes = sym (length-map c.args.changes.now change_json) ∙ ap length c.in_ok-changes.ensures.0 ∙ length-map changes written_change in
    let more : length c.args.conditions.now ≡ length conditions = sym (length-map c.args.conditions.now condition_json) ∙ ap length made.0 ∙ length-map conditions (written_condition c.args.store) in
    let few : length changes ≤ 64 = omega arith in
    let fewer : length conditions ≤ 16 = omega arith in
    rw (p.1, p.2) (write_refused c.args.store c.args.changes.now c.args.conditions.now (changed changes) (conditioned conditions) _ (omega arith, omega arith) made.2 c.in_ok-changes.ensures.1
    (subst (AreTuples (map conditioned_text c.args.conditions.now)) (sym made.1) c.in_ok-tuples.ensures)
    (λ was. let empty = ap length (new.none.0 (ap (λ (e : Refusal). Err e) was)) in omega (arith, empty, long, c.requires))
    (λ was. in_limits (length changes) (length conditions) few fewer (new.large.0 (ap (λ (e : Refusal). Err e) was)).1)
    (λ was. new.repeated (ap (λ (e : Refusal). Err e) was))
    new.err)
