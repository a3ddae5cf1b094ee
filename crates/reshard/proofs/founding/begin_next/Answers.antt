use Rattle.reshard.specs.Refusing.{IsBlank}
use Rattle.reshard.proofs.Founded.{one_begun, two_taken}
use Rattle.reshard.proofs.founding.begin_next.Goals as goal

pub returns-in-Ok-clause-honest : goal.returns-in-Ok-clause-honest
returns-in-Ok-clause-honest g c = λ all before.
    let taken = two_taken g.D.Device.honest c.args.devices.now.items c.take_two-a.new.devices.items c.take_two-a.result.0 c.take_two-a.result.1 c.take_two-a.ensures.items all in
    let still = c.in-Ok.ensures.honest in
    (taken.2, one_begun g.D.Device.honest c.args.begun.now.items c.push_reserved.new.self.items c.in-Ok.node c.push_reserved.ensures.items (still.0.0 taken.0) (still.1.0 taken.1) before)

pub returns-in-Ok-clause-node : goal.returns-in-Ok-clause-node
returns-in-Ok-clause-node g c = record {
  a = c.take_two-a.result.0;
  b = c.take_two-a.result.1;
  node = c.in-Ok.node;
  old_is = c.take_two-a.ensures.items;
  new_is = c.push_reserved.ensures.items;
  is_open = c.in-Ok.ensures.open;
  still_honest = λ fine. (c.in-Ok.ensures.honest).0.0 fine;
  moments = λ in_a in_b. let m = c.in-Ok.ensures.moments in_a.is_honest in_b.is_honest in_a.none in_b.none in record { first = m.0; second = m.1 };
}

pub returns-in-Ok-clause-blank : goal.returns-in-Ok-clause-blank
returns-in-Ok-clause-blank g c = λ all.
    (two_taken (IsBlank g.D.Device.state g.D.Device.honest) c.args.devices.now.items c.take_two-a.new.devices.items c.take_two-a.result.0 c.take_two-a.result.1 c.take_two-a.ensures.items all).2

pub returns-in-Err-clause-damaged : goal.returns-in-Err-clause-damaged
returns-in-Err-clause-damaged g c = λ is all.
    let taken = two_taken (IsBlank g.D.Device.state g.D.Device.honest) c.args.devices.now.items c.take_two-a.new.devices.items c.take_two-a.result.0 c.take_two-a.result.1 c.take_two-a.ensures.items all in
    c.in-Err.ensures.damaged taken.0.0 taken.1.0 (cc) taken.0.1 taken.1.1
