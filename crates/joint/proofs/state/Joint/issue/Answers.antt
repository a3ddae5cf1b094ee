use Rattle.std.proofs.Common.{◌≡◌, ◌∙◌, List, [], ap, arith, sym, subst}
use Rattle.joint.specs.Views.{Holding}
use Rattle.joint.specs.Whole.{Admits}
use Rattle.joint.proofs.Keeping.{issues}
use Rattle.joint.proofs.state.Joint.issue.Goals as goal

pub load-requires : goal.load-requires
load-requires g c =
    let note = c.note-new.ensures.note in
    let parts : c.new.inside.seat.me.0.parts ≡ [] = ap (λ (h : Holding g.row.P.Denot g.row.T.Denot g.row.F.Denot). h.parts) c.new.view_is ∙ note.1 in
    let goods : c.new.inside.seat.me.0.goods ≡ [] = ap (λ (h : Holding g.row.P.Denot g.row.T.Denot g.row.F.Denot). h.goods) c.new.view_is ∙ note.2 in
    let facts : c.new.inside.seat.me.0.facts ≡ c.args.pass.now.facts = ap (λ (h : Holding g.row.P.Denot g.row.T.Denot g.row.F.Denot). h.facts) c.new.view_is ∙ note.3 in
    let admits = subst (λ (known : List g.row.F.Denot). Admits g.L.Law.holds g.L.Law.right known g.I.Issues.goods g.I.Issues.facts) (sym facts) c.requires.admits in
    (cc (note.0, c.requires.own, c.new.view_is, c.self.view_is), omega (arith, c.self.invariant), issues _ _ _ _ _ _ _ c.new.invariant.0 goods parts admits)
