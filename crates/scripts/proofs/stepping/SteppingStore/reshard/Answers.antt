use Rattle.std.proofs.Common.{Ok, subst, sym}
use Rattle.std.proofs.lemmas.Result.{err_from_is_err_and}
use Rattle.cluster.specs.Steps.{Takes}
use Rattle.cluster.specs.Worlds.{WorldView}
use Rattle.scripts.specs.Cares.{Moves}
use Rattle.scripts.specs.Resharding.{Reshards}
use Rattle.scripts.proofs.Carried.{ready_moves, ready_refuses, unready_stays}
use Rattle.scripts.proofs.stepping.SteppingStore.reshard.Goals as goal

pub returns-in_err-is_ready : goal.returns-in_err-is_ready
returns-in_err-is_ready g c =
    let p = err_from_is_err_and c.from_residual.result c.from_residual.ensures.1 in
    rw (p.1, p.2) (unready_stays g.P.Supply.gives g.D.Device.state g.D.Device.honest g.D.Device.moment g.D.Device.left_since c.self.inside.world c.args.self.now c.args.shards _ c.self.view_is c.in_err-is_ready.ensures)

pub returns-in_err-new : goal.returns-in_err-new
returns-in_err-new g c =
    let p = err_from_is_err_and c.from_residual-in_err-new.result c.from_residual-in_err-new.ensures.1 in
    rw (p.1, p.2) (ready_refuses g.P.Supply.gives g.D.Device.state g.D.Device.honest g.D.Device.moment g.D.Device.left_since c.self.inside.world c.args.self.now c.carry.new.world c.args.shards _ c.self.view_is
    c.in_ok-is_ready.ensures c.carry.ensures.cares)

pub returns : goal.returns
returns g c =
    let Behind : WorldView g.row.D.Denot → Type 0 = λ new. Moves (Takes g.D.Device.state g.D.Device.honest g.D.Device.moment g.D.Device.left_since)
    (Reshards g.P.Supply.gives g.D.Device.state g.D.Device.honest g.D.Device.moment g.D.Device.left_since) c.args.shards c.args.self.now (Ok tt) new in
    subst Behind (sym c.replace.ensures.after) (ready_moves g.P.Supply.gives g.D.Device.state g.D.Device.honest g.D.Device.moment g.D.Device.left_since c.self.inside.world c.args.self.now c.carry.new.world c.in_ok-new.new
    c.args.shards c.self.view_is c.in_ok-is_ready.ensures c.carry.ensures.cares c.in_ok-new.ensures.ok)
