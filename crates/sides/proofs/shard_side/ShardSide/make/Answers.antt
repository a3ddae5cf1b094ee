use Rattle.std.proofs.Common.{ℕ, sym, subst}
use Rattle.calls.specs.Asking.{MayAskShard}
use Rattle.sides.specs.Lending.{IsSoundIn, StagesMoreIn}
use Rattle.sides.specs.Sides.{HandsSeen, MayAskIn}
use Rattle.sides.proofs.Words.{AnsweredIn, Side}
use Rattle.sides.proofs.ShardCalls.{call_stays}
use Rattle.sides.proofs.Sound.{may_ask, shard_stays_there}
use Rattle.sides.proofs.Staging.{shard_stays_sound, stages_more}
use Rattle.sides.proofs.shard_side.ShardSide.make.Goals as goal

pub ask_shard-requires : goal.ask_shard-requires
ask_shard-requires g c =
    let owed = subst (λ (v : Side g.row.D.Denot). MayAskShard g.B.Room.shards v.number c.args.call) (sym c.self.view_is) c.requires.owed in
    subst (λ (n : ℕ). MayAskIn n c.self.inside.node c.args.call) (sym c.node-number.ensures)
    (may_ask g.B.Room.store g.B.Room.shards c.self.inside.me.node c.self.inside.node c.args.call c.self.invariant.3 owed)

pub invariant_of-self : goal.invariant_of-self
invariant_of-self g c =
    let inv = c.self.invariant in
    let answered = subst (λ (n : ℕ). AnsweredIn g.D.Device.state g.D.Device.honest g.D.Device.moment g.D.Device.left_since n c.self.inside.node c.args.call c.ask_shard.result c.ask_shard.new.node) c.node-number.ensures c.ask_shard.ensures.answered in
    let hands : g.B.Room.rests → HandsSeen c.self.inside.pass c.args.call = λ rests. subst (λ (v : Side g.row.D.Denot). HandsSeen v.pass c.args.call) (sym c.self.view_is) (c.requires.hands rests) in (
      inv.0,
      inv.1,
      inv.2,
      shard_stays_there g.D.Device.state g.D.Device.honest g.D.Device.moment g.D.Device.left_since g.B.Room.store g.B.Room.shards c.self.inside.me.node c.args.call c.self.inside.node c.ask_shard.new.node c.ask_shard.result inv.3 answered,
      λ rests. call_stays g.D.Device.state g.D.Device.honest g.D.Device.moment g.D.Device.left_since g.met.D.Device.counts_now g.B.Room.store g.B.Room.shards c.self.inside.me.node c.args.call c.self.inside.pass (hands rests) c.self.inside.node c.ask_shard.new.node c.ask_shard.result (inv.4 rests) answered,
    )

pub returns-clause-sound : goal.returns-clause-sound
returns-clause-sound g c = λ sound.
    let was = subst (λ (v : Side g.row.D.Denot). IsSoundIn g.D.Device.state g.D.Device.honest v.node) (sym c.self.view_is) sound in
    shard_stays_sound g.D.Device.state g.D.Device.honest g.D.Device.moment g.D.Device.left_since c.node-number.result c.args.call c.self.inside.node c.ask_shard.new.node c.ask_shard.result was c.ask_shard.ensures.answered

pub returns-clause-staged : goal.returns-clause-staged
returns-clause-staged g c = λ calm sound.
    let was = subst (λ (v : Side g.row.D.Denot). IsSoundIn g.D.Device.state g.D.Device.honest v.node) (sym c.self.view_is) sound in
    subst (λ (v : Side g.row.D.Denot). StagesMoreIn v.node c.ask_shard.new.node) c.self.view_is
    (stages_more g.D.Device.state g.D.Device.honest g.D.Device.moment g.D.Device.left_since c.node-number.result c.args.call c.self.inside.node c.ask_shard.new.node c.ask_shard.result calm was c.ask_shard.ensures.answered)
