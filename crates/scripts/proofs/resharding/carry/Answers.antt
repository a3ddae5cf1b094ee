use Rattle.std.proofs.Common.{◌+◌, ◌∙◌, ap, length}
use Rattle.scripts.proofs.Carried.{cares_taken, devices_count}
use Rattle.scripts.proofs.resharding.carry.Goals as goal

pub returns-in-Ok-clause-cares : goal.returns-in-Ok-clause-cares
returns-in-Ok-clause-cares g c = cares_taken g.D.Device.state g.D.Device.honest g.D.Device.moment g.D.Device.left_since c.args.world.now c.reshard.new.old c.reshard.ensures.cares

pub returns-in-Ok-clause-ok : goal.returns-in-Ok-clause-ok
returns-in-Ok-clause-ok g c =
    let made = c.in-Ok.ensures.ok in
    let are_made = made.2.are_made in
    record {
      cared_for = made.1;
      given = c.in_ok-devices.devices.items;
      made = made.0;
      fresh = c.in_ok-devices.ensures.each;
      count = ap length are_made.made_is ∙ devices_count are_made.nodes (c.args.shards + 1) are_made.count;
      carried = made.2;
      opened = made.3;
    }

pub returns-in-Err-clause-cares : goal.returns-in-Err-clause-cares
returns-in-Err-clause-cares g c = cares_taken g.D.Device.state g.D.Device.honest g.D.Device.moment g.D.Device.left_since c.args.world.now c.reshard.new.old c.reshard.ensures.cares
