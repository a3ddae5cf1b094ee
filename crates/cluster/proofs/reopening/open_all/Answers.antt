-- With each node that is opened, one more of them is.
use Rattle.std.proofs.Common.{rules, ◌+◌, ◌∙◌, ℕ, length, ap, sym, arith}
use Rattle.std.specs.Vec.{vec_len}
use Rattle.cluster.proofs.Openings.{count_all, first, first_two, more, next_two, one_up, opened}
use Rattle.cluster.proofs.reopening.open_all.Goals as goal

pub loop-shard-init : goal.loop-shard-init
loop-shard-init g c = record {
  left = first_two (vec_len c.open_next.new.devices) (vec_len c.args.devices) c.args.shards c.open_next.ensures.left c.requires.count;
  opened = c.open_next.ensures.opened ∙ ap (λ (n : ℕ). n + 1) c.in-Ok.ensures.len;
  room = search rules;
  so_far = first g.D.Device.state g.D.Device.honest g.D.Device.moment g.D.Device.left_since c.args.store c.args.shards c.args.devices.items c.in-Ok.nodes.items c.open_next.new.devices.items c.open_next.new.nodes.items c.in-Ok.ensures.items c.open_next.ensures.opens;
}

pub loop-shard-preserved : goal.loop-shard-preserved
loop-shard-preserved g c = record {
  left = next_two (vec_len c.open_next-in-loop-shard.new.devices) (vec_len c.loop-shard.devices) c.loop-shard.shard c.args.shards c.open_next-in-loop-shard.ensures.left c.loop-shard.invariant.left;
  opened = one_up (vec_len c.open_next-in-loop-shard.new.nodes) (vec_len c.loop-shard.nodes) c.loop-shard.shard c.open_next-in-loop-shard.ensures.opened c.loop-shard.invariant.opened;
  room = c.open_next-in-loop-shard.ensures.room ∙ c.loop-shard.invariant.room;
  so_far = more g.D.Device.state g.D.Device.honest g.D.Device.moment g.D.Device.left_since c.args.store c.args.shards c.args.devices.items c.loop-shard.devices.items c.loop-shard.nodes.items c.loop-shard.shard c.open_next-in-loop-shard.new.devices.items c.open_next-in-loop-shard.new.nodes.items c.loop-shard.invariant.so_far (sym c.loop-shard.nodes.ok.0 ∙ c.loop-shard.invariant.opened) c.open_next-in-loop-shard.ensures.opens;
}

pub returns-clause-opened : goal.returns-clause-opened
returns-clause-opened g c = opened g.D.Device.state g.D.Device.honest g.D.Device.moment g.D.Device.left_since c.args.store c.args.shards c.args.devices.items c.loop-shard.devices.items c.loop-shard.nodes.items (vec_len c.loop-shard.devices) c.loop-shard.shard c.loop-shard.invariant.so_far (sym c.loop-shard.devices.ok.0) c.loop-shard.invariant.left (omega (arith, c.loop-shard-test.false, c.count-count.ensures.value))

pub returns-clause-count : goal.returns-clause-count
returns-clause-count g c = count_all (length c.loop-shard.nodes.items) (vec_len c.loop-shard.nodes) c.loop-shard.shard c.args.shards c.loop-shard.nodes.ok.0 c.loop-shard.invariant.opened (omega (arith, c.loop-shard-test.false, c.count-count.ensures.value)) (omega (arith, c.loop-shard.auto.shard-end, c.count-count.ensures.value))

pub open_next-requires-clause-left : goal.open_next-requires-clause-left
open_next-requires-clause-left g c = omega (arith, c.requires.count, c.count-count.ensures.whole.some)

pub open_next-requires-in-loop-shard-clause-there : goal.open_next-requires-in-loop-shard-clause-there
open_next-requires-in-loop-shard-clause-there g c = omega (arith, c.loop-shard-test.true, c.count-count.ensures.value)

pub open_next-requires-in-loop-shard-clause-left : goal.open_next-requires-in-loop-shard-clause-left
open_next-requires-in-loop-shard-clause-left g c = omega (arith, c.loop-shard.invariant.left, c.loop-shard-test.true, c.count-count.ensures.value)

pub open_next-requires-in-loop-shard-clause-room : goal.open_next-requires-in-loop-shard-clause-room
open_next-requires-in-loop-shard-clause-room g c = omega (arith, c.loop-shard.invariant.opened, c.loop-shard.invariant.room, c.loop-shard-test.true, c.count-count.ensures.value)
