use Rattle.std.proofs.Common.{ℕ, sym, ap, subst}
use Rattle.sides.proofs.Words.{AnsweredIn, from_shard, IsTiedIn, Side, TellsRows}
use Rattle.calls.specs.Reading.{read_reply}
use Rattle.sides.proofs.ShardReads.{rows_are_told}
use Rattle.sides.proofs.shard_side.ShardSide.look.Goals as goal

pub returns-clause-rows : goal.returns-clause-rows
returns-clause-rows g c rests =
    let tied = subst (λ (v : Side g.row.D.Denot). IsTiedIn g.D.Device.state g.D.Device.honest g.B.Room.store g.B.Room.shards v.number v.node c.tell.new.pass) (sym c.self.view_is) (c.tell.ensures.tied rests) in
    let answered = subst (λ (n : ℕ). AnsweredIn g.D.Device.state g.D.Device.honest g.D.Device.moment g.D.Device.left_since n c.self.inside.node c.args.call.now (from_shard (read_reply c.args.call.now c.look_at_shard.result)) c.self.inside.node) c.node.ensures c.look_at_shard.ensures.answered in
    subst (λ (n : ℕ). TellsRows g.B.Room.shards n c.tell.new.pass.seen c.args.call.now c.look_at_shard.result)
    (ap (λ (v : Side g.row.D.Denot). v.number) c.self.view_is)
    (rows_are_told g.D.Device.state g.D.Device.honest g.D.Device.moment g.D.Device.left_since g.B.Room.store g.B.Room.shards c.self.inside.me.node c.self.inside.node c.self.inside.node c.tell.new.pass c.args.call.now c.look_at_shard.result tied answered)
