use Rattle.std.proofs.Common.{◌≡◌, ◌∙◌, List, ap, subst, sym}
use Rattle.joint.specs.Views.{Holding}
use Rattle.accord.specs.declared.fact.DecidedWrite.{DecidedWrite}
use Rattle.accord.specs.declared.goods.Begun.{Begun}
use Rattle.accord.specs.declared.parts.ListPart.{ListPart}
use Rattle.owners.specs.Owners.{CallerHolding, GoesOnWith, ListHolding, begun_in, part_in}
use Rattle.owners.proofs.Holding.{keeps_with}
use Rattle.owners.proofs.owners.Owners.step_with.Goals as goal

pub change-requires-clause-keeps : goal.change-requires-clause-keeps
change-requires-clause-keeps g c =
    let made = c.bring.ensures.list in
    let part : part_in c.list.inside.held.parts ≡ c.args.list.now.part = ap (λ (h : ListHolding). h.part) c.list.view_is in
    let begun : begun_in c.caller.inside.held.goods ≡ c.args.caller.now.begun = ap (λ (h : CallerHolding). h.begun) c.caller.view_is in
    let goes_on = subst (λ (p : ListPart). GoesOnWith p (begun_in c.caller.inside.held.goods) g.M.Moves.part g.M.Moves.begun g.M.Moves.facts) (sym part)
    (subst (λ (bs : List Begun). GoesOnWith c.args.list.now.part bs g.M.Moves.part g.M.Moves.begun g.M.Moves.facts) (sym begun) c.requires.goes_on) in
    keeps_with c.bring.new.list _ _ _ _ _ _ (ap (λ (h : Holding ListPart (List Begun) DecidedWrite). h.parts) made ∙ c.list.invariant.0)
    (ap (λ (h : Holding ListPart (List Begun) DecidedWrite). h.goods) made ∙ c.caller.invariant.1.1) goes_on
