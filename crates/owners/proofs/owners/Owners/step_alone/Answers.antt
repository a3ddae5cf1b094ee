use Rattle.std.proofs.Common.{◌≡◌, ap, subst, sym}
use Rattle.accord.specs.declared.parts.ListPart.{ListPart}
use Rattle.owners.specs.Owners.{GoesOnAlone, ListHolding, part_in}
use Rattle.owners.proofs.Holding.{keeps_alone}
use Rattle.owners.proofs.owners.Owners.step_alone.Goals as goal

pub change-requires-clause-keeps : goal.change-requires-clause-keeps
change-requires-clause-keeps g c =
    let part : part_in c.list.inside.held.parts ≡ c.args.list.now.part = ap (λ (h : ListHolding). h.part) c.list.view_is in
    keeps_alone c.list.inside.held _ _ c.list.invariant.0 c.list.invariant.1 (subst (λ (p : ListPart). GoesOnAlone p g.M.Moves.part) (sym part) c.requires.goes_on)
