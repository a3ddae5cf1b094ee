use Rattle.std.proofs.Common.{get_or, ap}
use Rattle.journal.specs.Beginnings.{BegunView}
use Rattle.reshard.proofs.Written.{ends_first, ends_none, has_log, honest_first, others_stay}
use Rattle.reshard.proofs.filling.fill_log.Goals as goal

pub returns-in-Some-clause-ends : goal.returns-in-Some-clause-ends
returns-in-Some-clause-ends g c =
    let was = get_or c.args.begun.now 0 c.index-begun-0.result in
    ends_first g.D.Device.state g.D.Device.honest g.D.Device.moment g.D.Device.left_since c.args.old.now c.args.shards c.in-Some.node.now c.args.begun.now was c.carry.new.begun c.carry.result c.in-Some.ensures
    (ap (λ (d : BegunView _). get_or c.args.begun.now 0 d) c.index-begun-0.is) c.carry.ensures

pub returns-in-None-clause-ends : goal.returns-in-None-clause-ends
returns-in-None-clause-ends g c = ends_none g.D.Device.state g.D.Device.honest g.D.Device.moment g.D.Device.left_since c.args.old.now c.args.shards c.args.begun.now c.in-None.ensures

pub returns-in-Some-clause-honest : goal.returns-in-Some-clause-honest
returns-in-Some-clause-honest g c =
    let was = get_or c.args.begun.now 0 c.index-begun-0.result in
    honest_first g.D.Device.state g.D.Device.honest g.D.Device.moment g.D.Device.left_since c.args.old.now c.args.shards c.in-Some.node.now c.args.begun.now was c.carry.new.begun c.carry.result c.requires.there
    (ap (λ (d : BegunView _). get_or c.args.begun.now 0 d) c.index-begun-0.is) c.carry.ensures

pub returns-in-Some-clause-ok : goal.returns-in-Some-clause-ok
returns-in-Some-clause-ok g c =
    let was = get_or c.args.begun.now 0 c.index-begun-0.result in
    has_log g.D.Device.state g.D.Device.honest g.D.Device.moment g.D.Device.left_since c.args.old.now c.args.shards c.in-Some.node.now c.args.begun.now was c.carry.new.begun c.carry.result c.requires.there
    (ap (λ (d : BegunView _). get_or c.args.begun.now 0 d) c.index-begun-0.is) c.in-Some.ensures c.carry.ensures

pub returns-in-Some-clause-others : goal.returns-in-Some-clause-others
returns-in-Some-clause-others g c = λ s n there. others_stay g.D.Device.state g.D.Device.honest g.D.Device.moment g.D.Device.left_since c.args.old.now c.args.shards c.args.begun.now c.carry.new.begun n s there
