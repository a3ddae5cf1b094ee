use Rattle.std.proofs.Common.{◌∙◌, arith}
use Rattle.reshard.proofs.Founded.{one_back}
use Rattle.reshard.proofs.founding.give_back.Goals as goal

pub loop-node-preserved : goal.loop-node-preserved
loop-node-preserved g c =
    let before = c.loop-node.invariant in
    record {
      items = one_back c.loop-node.begun.items c.pop.new.self.items c.loop-node.devices.items c.put_two.new.devices.items _ c.in-Some.node c.into_devices-a.result.0 c.into_devices-a.result.1 c.in-Some.ensures.items c.put_two.ensures.items c.into_devices-a.ensures.0 c.into_devices-a.ensures.1 before.items;
      len = omega (arith, c.put_two.ensures.len, c.in-Some.ensures.len, before.len);
      room = c.put_two.ensures.room ∙ before.room;
    }
