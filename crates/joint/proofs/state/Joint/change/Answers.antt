use Rattle.std.proofs.Common.{arith, sym, subst}
use Rattle.joint.specs.Views.{Holding}
use Rattle.joint.specs.Whole.{Keeps}
use Rattle.joint.proofs.Keeping.{changes}
use Rattle.joint.proofs.state.Joint.change.Goals as goal

pub load-requires : goal.load-requires
load-requires g c =
    let keeps = subst (λ (h : Holding g.row.P.Denot g.row.T.Denot g.row.F.Denot). Keeps g.L.Law.holds g.L.Law.right h g.C.Changes.part g.C.Changes.goods g.C.Changes.facts) (sym c.pass.view_is) c.requires.keeps in
    (cc (c.requires.own, c.pass.view_is, c.self.view_is), omega (arith, c.self.invariant), changes _ _ _ _ _ _ _ _ c.pass.invariant.0 keeps)
