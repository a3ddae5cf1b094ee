-- A row is of the userset exactly if its first two parts are.
use Rattle.std.proofs.Common.{◌≡◌, ◌∙◌, true, false, true≢false, sym, rules}
use Rattle.std.specs.Ordering.{is_eq}
use Rattle.tuples.specs.Order.{name_cmp, object_cmp}
use Rattle.tuples.proofs.Ordered.{user_tied}
use Rattle.answer_flow.proofs.MetLists.{holding_is, holding_parts}
use Rattle.answer_flow.proofs.walk.is_of.Goals as goal

pub returns-then-not-is_eq : goal.returns-then-not-is_eq
returns-then-not-is_eq c =
    let test : c.is_eq.result ≡ is_eq (object_cmp c.args.row.now.object c.args.userset.now.object) = search rules in
    let not : c.is_eq.result ≡ false = search rules in
    (λ is. absurd (true≢false (sym is)), λ is. absurd (true≢false (sym (test ∙ (holding_parts c.args.userset.now c.args.row.now.user c.args.row.now is).0) ∙ not)))

pub returns : goal.returns
returns c =
    let object : is_eq (object_cmp c.args.row.now.object c.args.userset.now.object) ≡ true = search rules in
    let test : c.is_eq-2.result ≡ is_eq (name_cmp c.args.row.now.relation c.args.userset.now.relation) = search rules in
    (λ is. holding_is c.args.userset.now c.args.row.now.user c.args.row.now object (sym test ∙ is) (user_tied c.args.row.now.user), λ is. test ∙ (holding_parts c.args.userset.now c.args.row.now.user c.args.row.now is).1)
