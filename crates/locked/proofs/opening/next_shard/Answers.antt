use Rattle.std.proofs.Common.{◌≡◌, ◌≤◌, ℕ, List, ◌∙◌, ap, sym, subst, arith}
use mathlib.Core.List.{IsPrefix}
use Rattle.locked.proofs.Words.{Entry, Identity, Known, RowsAnywhere}
use Rattle.sides.specs.CoordinatorSides.{LogSide}
use Rattle.locked.proofs.NewDevices.{next_shard_rests, others_honest, others_rest, two_honest}
use Rattle.locked.proofs.opening.next_shard.Goals as goal

pub new-requires-clause-rows : goal.new-requires-clause-rows
new-requires-clause-rows g c rests =
    let list = c.requires.list rests in
    let seen : c.shared-pass.result.seen ≡ c.args.coordinator.now.seen = ap (λ (k : Known Entry). k.seen) c.shared-pass.ensures.pass ∙ ap (λ (s : LogSide g.row.D.Denot). s.seen) c.shared-pass.ensures.same in
    let horizon : c.shared-pass.result.horizon ≡ c.args.coordinator.now.low = ap (λ (k : Known Entry). k.horizon) c.shared-pass.ensures.pass ∙ ap (λ (s : LogSide g.row.D.Denot). s.low) c.shared-pass.ensures.same in
    let later = subst (λ (l : List Entry). IsPrefix g.B.Room.first l) (sym seen) list.0 in
    let raised : g.B.Room.low ≤ c.shared-pass.result.horizon = let low = list.1 in omega (arith, low, horizon) in
    let number : c.args.shard ≡ c.shard-me.result.node = sym (ap (λ (i : Identity). i.node) c.shard-me.ensures) in
    subst (λ (s : ℕ). RowsAnywhere g.D.Device.state g.D.Device.honest g.B.Room.shards s c.take_two-a.result.0 c.take_two-a.result.1 c.shared-pass.result.seen c.shared-pass.result.horizon) number
    (next_shard_rests g.D.Device.state g.D.Device.honest g.B.Room.shards g.B.Room.first g.B.Room.low c.args.devices.now.items c.take_two-a.result.0 c.take_two-a.result.1 c.take_two-a.new.devices.items c.take_two-a.ensures.items
    g.B.Room.store c.args.shard c.shared-pass.result.seen c.shared-pass.result.horizon c.requires.there (c.requires.rests rests) later raised)

pub returns-clause-rests : goal.returns-clause-rests
returns-clause-rests g c rests =
    others_rest g.D.Device.state g.D.Device.honest g.B.Room.shards g.B.Room.first g.B.Room.low c.args.devices.now.items c.take_two-a.result.0 c.take_two-a.result.1 c.take_two-a.new.devices.items c.take_two-a.ensures.items c.args.shard
    (c.requires.rests rests)

pub new-requires-clause-honest : goal.new-requires-clause-honest
new-requires-clause-honest g c = two_honest g.D.Device.honest c.args.devices.now.items c.take_two-a.result.0 c.take_two-a.result.1 c.take_two-a.new.devices.items c.take_two-a.ensures.items c.requires.honest

pub returns-clause-honest : goal.returns-clause-honest
returns-clause-honest g c = others_honest g.D.Device.honest c.args.devices.now.items c.take_two-a.result.0 c.take_two-a.result.1 c.take_two-a.new.devices.items c.take_two-a.ensures.items c.requires.honest
