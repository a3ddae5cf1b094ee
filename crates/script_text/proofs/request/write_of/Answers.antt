use Rattle.std.proofs.Common.{◌≡◌, ◌≤◌, length, arith, sym, ap, ◌∙◌, Err}
use Rattle.std.proofs.lemmas.List.{length-map}
use Rattle.std.proofs.lemmas.Result.{err_from_is_err_and}
use Rattle.refusal.specs.declared.refusal.Refusal.{Refusal}
use Rattle.script_text.specs.Texts.{change_text, condition_text}
use Rattle.script_text.specs.Words.{texts}
use Rattle.script_text.proofs.Causing.{changes_misspelled, conditions_misspelled, write_refused}
use Rattle.script_text.proofs.request.write_of.Goals as goal
use Rattle.json_lines.proofs.Causing.{in_limits}

pub returns-in_err-changes-clause-err : goal.returns-in_err-changes-clause-err
returns-in_err-changes-clause-err c =
    let p = err_from_is_err_and c.from_residual.result c.from_residual.ensures.1 in
    let long = length-map c.args.changes.now (λ w. w.now) in
    let more = length-map c.args.conditions.now (λ w. w.now) in
    rw (p.1, p.2) (changes_misspelled (texts c.args.changes.now) (texts c.args.conditions.now) _ (omega arith, omega arith) c.in_err-changes.ensures)

pub returns-in_err-conditions-clause-err : goal.returns-in_err-conditions-clause-err
returns-in_err-conditions-clause-err c =
    let p = err_from_is_err_and c.from_residual-in_err-conditions.result c.from_residual-in_err-conditions.ensures.1 in
    let long = length-map c.args.changes.now (λ w. w.now) in
    let more = length-map c.args.conditions.now (λ w. w.now) in
    rw (p.1, p.2) (conditions_misspelled (texts c.args.changes.now) (texts c.args.conditions.now) _ (omega arith, omega arith) c.in_err-conditions.ensures)

pub returns-in_err-write-clause-err : goal.returns-in_err-write-clause-err
returns-in_err-write-clause-err c =
    let p = err_from_is_err_and c.from_residual-in_err-write.result c.from_residual-in_err-write.ensures.1 in
    let new = c.in_err-write.ensures in
    let changes = c.in_ok-changes.changes.items in
    let conditions = c.in_ok-conditions.conditions.items in
    let spelled = length-map c.args.changes.now (λ w. w.now) in
    let asked = length-map c.args.conditions.now (λ w. w.now) in
    let long : length c.args.changes.now ≡ length changes = sym spelled ∙ ap length c.in_ok-changes.ensures.0 ∙ length-map changes change_text in
    let more : length c.args.conditions.now ≡ length conditions = sym asked ∙ ap length c.in_ok-conditions.ensures.0 ∙ length-map conditions condition_text in
    let few : length changes ≤ 64 = omega arith in
    let fewer : length conditions ≤ 16 = omega arith in
    rw (p.1, p.2) (write_refused (texts c.args.changes.now) (texts c.args.conditions.now) changes conditions _ (omega arith, omega arith) c.in_ok-changes.ensures c.in_ok-conditions.ensures
    (λ was. let empty = ap length (new.none.0 (ap (λ (e : Refusal). Err e) was)) in omega (arith, empty, long, c.requires))
    (λ was. in_limits (length changes) (length conditions) few fewer (new.large.0 (ap (λ (e : Refusal). Err e) was)).1)
    (λ was. new.repeated (ap (λ (e : Refusal). Err e) was))
    new.err)
