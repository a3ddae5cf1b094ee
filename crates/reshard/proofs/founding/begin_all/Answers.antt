use Rattle.std.proofs.Common.{ap, arith}
use Rattle.std.proofs.lemmas.Result.{err_from_is_err_and}
use Rattle.std.specs.Global.{Vec}
use Rattle.journal.specs.Beginnings.{BegunView}
use Rattle.reshard.proofs.Written.{head_back, head_more}
use Rattle.reshard.proofs.founding.begin_all.Goals as goal

pub loop-alloc-preserved : goal.loop-alloc-preserved
loop-alloc-preserved g c =
    let before = c.loop-alloc.invariant.so_far in
    let next = c.in_ok-begin_next.ensures in
    let test = c.loop-alloc-test.true in
    record {
      so_far = record {
        left = omega (arith, next.left, before.left);
        room = omega (arith, next.capacity.1, before.room);
        few = omega (arith, next.ok, test, c.len.ensures);
        capacity = omega (arith, next.capacity.0, before.capacity);
        honest_so_far = λ all. next.honest (before.honest_so_far all).0 (before.honest_so_far all).1;
      };
      head = head_more g.D.Device.state g.D.Device.honest g.D.Device.moment g.D.Device.left_since c.args.devices.now.items c.loop-alloc.devices.items c.begin_next.new.devices.items c.loop-alloc.begun.items c.begin_next.new.begun.items c.loop-alloc.invariant.head next.node;
      blank = λ all. next.blank (c.loop-alloc.invariant.blank all);
    }

pub returns-in_err-begin_next-clause-head : goal.returns-in_err-begin_next-clause-head
returns-in_err-begin_next-clause-head g c =
    let back = c.in_err-begin_next.ensures.back in
    head_back g.D.Device.state g.D.Device.honest g.D.Device.moment g.D.Device.left_since c.args.devices.now.items c.loop-alloc.devices.items c.begin_next.new.devices.items c.loop-alloc.begun.items c.begin_next.new.begun.items c.loop-alloc.invariant.head back.0
    (ap (λ (v : Vec (BegunView _)). v.items) back.1)

pub returns-in_err-begin_next-clause-damaged : goal.returns-in_err-begin_next-clause-damaged
returns-in_err-begin_next-clause-damaged g c = λ is all.
    let p = err_from_is_err_and c.from_residual.result c.from_residual.ensures.1 in
    c.in_err-begin_next.ensures.damaged (cc) (c.loop-alloc.invariant.blank all)
