use Rattle.std.proofs.Common.{◌∙◌, ap, sym, subst, arith}
use Rattle.sides.specs.CoordinatorSides.{LogSide}
use Rattle.locked.specs.Opening.{HasFound}
use Rattle.locked.proofs.opening.open_nodes.Goals as goal

pub open_coordinator-requires-clause-left : goal.open_coordinator-requires-clause-left
open_coordinator-requires-clause-left g c = omega (arith, c.requires.count)

pub returns-in-Ok-clause-found : goal.returns-in-Ok-clause-found
returns-in-Ok-clause-found g c rests =
    let list = c.in_ok-side.ensures.list rests in
    let pass = c.session-caller.ensures.pass ∙ ap (λ (s : LogSide g.row.D.Denot). record { table = g.B.Room.log; seen = s.seen; horizon = s.low }) c.session-caller.ensures.same in
    subst (HasFound g.B.Room.first g.B.Room.low) (sym pass) list
