-- A row is the one that is looked for if it is of the user and of the userset.
use Rattle.std.proofs.Common.{◌≡◌, ◌∙◌, ◌↔◌, true, false, true≢false, IsTrue, sym, subst, rules}
use Rattle.std.specs.Ordering.{is_eq}
use Rattle.tuples.specs.declared.user.User.{User}
use Rattle.tuples.specs.Checking.{holding}
use Rattle.tuples.specs.Order.{user_cmp}
use Rattle.tuples.proofs.Same.{user_same}
use Rattle.answer_flow.proofs.MetLists.{holding_parts}
use Rattle.answer_flow.proofs.walk.is_holding.Goals as goal

pub returns-then-not-is_eq : goal.returns-then-not-is_eq
returns-then-not-is_eq c =
    let test : c.is_eq.result ≡ is_eq (user_cmp c.args.row.now.user c.args.user.now) = search rules in
    let not : c.is_eq.result ≡ false = search rules in
    (λ is. absurd (true≢false (sym is)), λ is. absurd (true≢false (sym (test ∙ (holding_parts c.args.userset.now c.args.user.now c.args.row.now is).2) ∙ not)))

pub returns : goal.returns
returns c =
    let same : is_eq (user_cmp c.args.row.now.user c.args.user.now) ≡ true = search rules in
    subst (λ (u : User). IsTrue c.is_of.result ↔ (c.args.row.now ≡ holding c.args.userset.now u)) (user_same c.args.row.now.user c.args.user.now same) c.is_of.ensures
