use Rattle.std.proofs.Common.{◌≡◌, ◌∷◌, List, cond, sym, ap, subst, ◌∙◌}
use Rattle.std.proofs.lemmas.Result.{IfOk-weaker}
use Rattle.tuples.specs.declared.tuple.Tuple.{Tuple}
use Rattle.tuples.specs.declared.user.User.{User}
use Rattle.tuples.specs.declared.user.User.TheVariants.{Id}
use Rattle.tuples.specs.Checking.{holding}
use Rattle.tuples.specs.Versions.{there_at}
use Rattle.tuples.specs.Walking.{IsCheckSelection}
use Rattle.versions.specs.Rows.{IsPicked, is_set_of, listed}
use Rattle.versions.proofs.Asked.{of_user}
use Rattle.versions.proofs.checking.searched.Goals as goal

pub returns-in_ok-holding-in-Id-clause-rows : goal.returns-in_ok-holding-in-Id-clause-rows
returns-in_ok-holding-in-Id-clause-rows g c =
    let there = there_at (listed c.args.table.now.entries) c.args.place in
    let x = c.args.userset.now in
    let sets : List Tuple = c.in_ok-sets.sets.items in
    let picked : IsPicked there (is_set_of x) sets = c.in_ok-sets.ensures.rows in
    let h : c.in_ok-holding-in-Id.field-0 ≡ holding x c.args.user.now = c.in_ok-holding-in-Id.ensures in
    let user : c.args.user.now ≡ Id c.in-Id.field-0 = c.in-Id.is in
    IfOk-weaker c.with_user.result _ _
    (λ v is. subst (IsCheckSelection there x c.args.user.now)
    (sym (is ∙ ap (λ (t : Tuple). cond (there t) (t ∷ sets) sets) h))
    (subst (λ (u : User). IsCheckSelection there x u (cond (there (holding x u)) (holding x u ∷ sets) sets)) (sym user) (of_user there x c.in-Id.field-0 sets picked)))
    c.with_user.ensures.rows

pub returns-in_ok-holding-in-Id-clause-counted : goal.returns-in_ok-holding-in-Id-clause-counted
returns-in_ok-holding-in-Id-clause-counted g c = IfOk-weaker c.with_user.result _ _ (λ v is. is ∙ c.in_ok-sets.ensures.counted) c.with_user.ensures.counted
