use Rattle.std.proofs.Common.{ℕ, List, sym, subst}
use Rattle.tuples.specs.declared.entry.WriteId.{WriteId}
use Rattle.shard.specs.Keeping.{IsKept}
use Rattle.shard.proofs.Checkpointed.{kept_checkpointed, point_checked, point_moments}
use Rattle.shard.proofs.shard.Shard.checkpoint.Goals as goal

pub invariant_of-self : goal.invariant_of-self
invariant_of-self g c =
    let s = c.self.inside in
    let w = c.write.new.journal in
    let e = c.in-Ok.ensures in
    let kept = kept_checkpointed g.D.Device.state g.D.Device.honest s.journal w s.me s.memory s.unflushed s.settled c.self.invariant e.up.0 e.honest.0.1 e.honest.1.1 e.up.2 e.next e.ok in
    subst (λ (n : ℕ). IsKept g.D.Device.state g.D.Device.honest w s.me s.memory c.clear.new.self n) (sym c.learned-self-inside.ensures)
    (subst (λ (ids : List WriteId). IsKept g.D.Device.state g.D.Device.honest w s.me s.memory ids s.memory.learned) (sym c.clear.ensures) kept)

pub returns-in-Ok-clause-any_moment : goal.returns-in-Ok-clause-any_moment
returns-in-Ok-clause-any_moment g c =
    let s = c.self.inside in
    point_moments g.D.Device.state g.D.Device.honest s.journal c.write.new.journal s.me s.memory s.unflushed s.settled c.self.invariant c.write.ensures.in_order g.D.Device.moment g.D.Device.left_since
    c.args.self.now c.self.view_is c.write.ensures.any_moment

pub returns-in-Ok-clause-ok : goal.returns-in-Ok-clause-ok
returns-in-Ok-clause-ok g c =
    let s = c.self.inside in
    let e = c.in-Ok.ensures in
    point_checked g.D.Device.state g.D.Device.honest s.journal c.write.new.journal s.me s.memory s.unflushed s.settled c.self.invariant e.in_order
    c.args.self.now c.self.view_is e.honest.0.0 e.honest.1.0 e.honest.0.1 e.honest.1.1 e.up.1 e.up.2 e.next e.ok

pub returns-in-Err-clause-any_moment : goal.returns-in-Err-clause-any_moment
returns-in-Err-clause-any_moment g c =
    let s = c.self.inside in
    point_moments g.D.Device.state g.D.Device.honest s.journal c.write.new.journal s.me s.memory s.unflushed s.settled c.self.invariant c.write.ensures.in_order g.D.Device.moment g.D.Device.left_since
    c.args.self.now c.self.view_is c.write.ensures.any_moment
