use Rattle.std.proofs.Common.{◌∙◌, ap, sym, subst}
use Rattle.away.specs.declared.away.Away.{Away}
use Rattle.calls.specs.Lending.{NodeLands}
use Rattle.calls.specs.Seen.{seen}
use Rattle.calls.specs.Views.{NodeView, coordinator, shard}
use Rattle.calls.specs.declared.lending.Flying.{Flying}
use Rattle.calls.proofs.lending.Node+Away+D.land.Goals as goal

pub returns-in-Coordinator-Coordinator : goal.returns-in-Coordinator-Coordinator
returns-in-Coordinator-Coordinator g c =
    let one = c.in-Coordinator-Coordinator in
    let new = coordinator c.land-back.result.0 in
    let e = c.land-back.ensures in
    subst (λ (v : NodeView (Away g.row.D.Denot)). NodeLands g.D.Device.state g.D.Device.honest v c.args.flown c.args.flying new) (ap seen (sym one.is-0) ∙ c.self.view_is)
    (subst (λ (f : Flying). NodeLands g.D.Device.state g.D.Device.honest (coordinator one.coordinator) c.args.flown f new) (sym one.is-1) (record { landed = e.landed; running = e.running }))

pub returns-in-Shard-Shard : goal.returns-in-Shard-Shard
returns-in-Shard-Shard g c =
    let one = c.in-Shard-Shard in
    let new = shard c.land-back-in-Shard-Shard.result.0 in
    let e = c.land-back-in-Shard-Shard.ensures in
    subst (λ (v : NodeView (Away g.row.D.Denot)). NodeLands g.D.Device.state g.D.Device.honest v c.args.flown c.args.flying new) (ap seen (sym one.is-0) ∙ c.self.view_is)
    (subst (λ (f : Flying). NodeLands g.D.Device.state g.D.Device.honest (shard one.shard) c.args.flown f new) (sym one.is-1) (record { landed = e.landed; up = e.up }))
