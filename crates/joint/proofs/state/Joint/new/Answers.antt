use Rattle.std.proofs.Common.{ℕ, arith, sym, subst}
use mathlib.Core.Option.{none}
use Rattle.atomic_table.specs.Table.{Allows, Me, step}
use Rattle.joint.specs.declared.rule.View.{View}
use Rattle.joint.specs.Whole.{Begun, IsRuled}
use Rattle.joint.proofs.Keeping.{begins}
use Rattle.joint.proofs.state.Joint.new.Goals as goal

pub load-requires : goal.load-requires
load-requires g c =
    let made = c.in_ok-table.ensures in
    let first = λ (me : Me (Unit {0}) (View g.row.P.Denot g.row.T.Denot g.row.F.Denot)).
    Allows (IsRuled g.L.Law.holds g.L.Law.right) c.in_ok-table.table.shared.table_id.slots c.in_ok-table.seat.id me 0 (λ (n : ℕ). n)
    (Begun g.B.Begins.parts g.B.Begins.facts (step c.in_ok-table.table.shared.table_id.slots 0 0 0 none) me) in
    (made.2, omega (arith, made.0), subst first (sym made.4) (begins _ _ _ _ _ _ c.requires.starts))
