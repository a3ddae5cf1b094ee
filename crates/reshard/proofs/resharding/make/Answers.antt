use Rattle.std.proofs.Common.{arith}
use Rattle.std.proofs.lemmas.Result.{on_ok_weaker}
use Rattle.std.proofs.lemmas.List.{nil_from_length}
use Rattle.reshard.specs.Merging.{merged}
use Rattle.reshard.proofs.Founded.{made}
use Rattle.reshard.specs.Written.{AreLeft}
use Rattle.reshard.proofs.Written.{left_over, on_err_always, written_in_order}
use Rattle.reshard.proofs.resharding.make.Goals as goal

pub returns-clause-ok : goal.returns-clause-ok
returns-clause-ok g c =
    let w = c.write-made.ensures in
    let begun = c.write-made.new.begun in
    let left = c.write-made.new.devices in
    made g.D.Device.state g.D.Device.honest c.args.old.now c.args.shards c.args.known.now.reach (merged c.args.known.now.rows) c.args.devices.now.items c.give_back.new.devices.items left.items begun.items c.give_back.ensures.items
    c.write-made.result
    (on_ok_weaker c.write-made.result (λ n. omega (arith, n, begun.ok.0)) w.count)
    (on_ok_weaker c.write-made.result (λ n. nil_from_length left.items (omega (arith, n, w.left, c.requires.count, left.ok.0))) w.count)
    w.honest w.each w.log

pub returns-clause-order : goal.returns-clause-order
returns-clause-order g c =
    let w = c.write-made.ensures in
    let left = c.write-made.new.devices in
    written_in_order g.D.Device.state g.D.Device.honest g.D.Device.moment g.D.Device.left_since c.args.old.now c.args.shards c.args.known.now.reach (merged c.args.known.now.rows) c.args.devices.now.items c.give_back.new.devices.items left.items c.write-made.new.begun.items
    c.write-made.result c.give_back.ensures.items
    (on_ok_weaker c.write-made.result (λ n. nil_from_length left.items (omega (arith, n, w.left, c.requires.count, left.ok.0))) w.count)
    w.order

pub returns-clause-left : goal.returns-clause-left
returns-clause-left g c =
    on_err_always (AreLeft g.D.Device.state g.D.Device.honest g.D.Device.moment g.D.Device.left_since c.args.old.now c.args.shards c.args.known.now.reach (merged c.args.known.now.rows) c.args.devices.now.items c.give_back.new.devices.items) c.write-made.result
    (left_over g.D.Device.state g.D.Device.honest g.D.Device.moment g.D.Device.left_since c.args.old.now c.args.shards c.args.known.now.reach (merged c.args.known.now.rows) c.args.devices.now.items c.give_back.new.devices.items c.write-made.new.devices.items c.write-made.new.begun.items c.give_back.ensures.items c.write-made.ensures.so_far)
