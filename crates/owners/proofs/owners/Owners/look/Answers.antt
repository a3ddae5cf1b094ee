use Rattle.std.proofs.Common.{◌≡◌, ◌∙◌, ◌++◌, List, ap, subst}
use Rattle.joint.specs.Views.{Holding}
use Rattle.accord.specs.declared.fact.DecidedWrite.{DecidedWrite}
use Rattle.accord.specs.declared.goods.Begun.{Begun}
use Rattle.accord.specs.declared.parts.ListPart.{ListPart}
use Rattle.owners.specs.Owners.{CallerHolding, IsLawful, ListHolding, begun_in, part_in}
use Rattle.owners.proofs.Holding.{lawful}
use Rattle.owners.proofs.owners.Owners.look.Goals as goal

pub returns-clause-lawful : goal.returns-clause-lawful
returns-clause-lawful c =
    let made = c.bring.ensures.list in
    let facts : c.bring.new.list.facts ≡ c.args.list.now.facts ++ c.args.caller.now.facts = cc (ap (λ (h : Holding ListPart (List Begun) DecidedWrite). h.facts) made, ap (λ (h : ListHolding). h.facts) c.list.view_is, ap (λ (h : CallerHolding). h.facts) c.caller.view_is) in
    let told = lawful c.bring.new.list _ _ _ (ap (λ (h : Holding ListPart (List Begun) DecidedWrite). h.parts) made ∙ c.list.invariant.0)
    (ap (λ (h : Holding ListPart (List Begun) DecidedWrite). h.goods) made ∙ c.caller.invariant.1.1) c.look.ensures.seen in
    subst (λ (p : ListPart). IsLawful p c.args.caller.now.begun (c.args.list.now.facts ++ c.args.caller.now.facts)) (ap (λ (h : ListHolding). h.part) c.list.view_is)
    (subst (λ (bs : List Begun). IsLawful (part_in c.list.inside.held.parts) bs (c.args.list.now.facts ++ c.args.caller.now.facts)) (ap (λ (h : CallerHolding). h.begun) c.caller.view_is)
    (subst (λ (fs : List DecidedWrite). IsLawful (part_in c.list.inside.held.parts) (begun_in c.caller.inside.held.goods) fs) facts told))
