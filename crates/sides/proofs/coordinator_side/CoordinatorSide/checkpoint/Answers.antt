use Rattle.std.proofs.Common.{◌∙◌, ap, subst, sym}
use Rattle.sides.proofs.Words.{Checkpoint, Entry, IsSoundThere, IsTiedThere, Known}
use Rattle.sides.proofs.CoordinatorCalls.{checkpoint_may_join}
use Rattle.sides.proofs.Sound.{log_stays_sound}
use Rattle.sides.proofs.coordinator_side.CoordinatorSide.checkpoint.Goals as goal

pub join-requires-clause-sound : goal.join-requires-clause-sound
join-requires-clause-sound g c = let inv = c.self.invariant in log_stays_sound g.D.Device.state g.D.Device.honest g.B.Room.store g.B.Room.shards g.D.Device.moment g.D.Device.left_since Checkpoint c.self.inside.node c.ask_coordinator-reply.new.node c.ask_coordinator-reply.result inv.2 c.ask_coordinator-reply.ensures.answered

pub invariant_of-self : goal.invariant_of-self
invariant_of-self g c = let inv = c.self.invariant in let same = c.meet.ensures.same.0 in (
  ap (λ (k : Known Entry). k.table) same ∙ c.join.ensures.same ∙ inv.0,
  inv.1,
  subst (IsSoundThere g.D.Device.state g.D.Device.honest g.B.Room.store g.B.Room.shards) (sym c.join.ensures.node) (log_stays_sound g.D.Device.state g.D.Device.honest g.B.Room.store g.B.Room.shards g.D.Device.moment g.D.Device.left_since Checkpoint c.self.inside.node c.ask_coordinator-reply.new.node c.ask_coordinator-reply.result inv.2 c.ask_coordinator-reply.ensures.answered),
  λ rests. subst (λ (k : Known Entry). IsTiedThere g.D.Device.state g.D.Device.honest g.B.Room.store g.B.Room.shards c.join.new.node k.seen k.horizon c.self.inside.attempts.seen) (sym same)
      (c.join.ensures.tied c.self.inside.attempts.seen
      (checkpoint_may_join g.D.Device.state g.D.Device.honest g.D.Device.moment g.D.Device.left_since g.B.Room.store g.B.Room.shards c.self.inside.log.seen c.self.inside.log.horizon c.self.inside.attempts.seen g.met.D.Device.counts_now c.self.inside.node c.ask_coordinator-reply.new.node c.ask_coordinator-reply.result (inv.3 rests) c.ask_coordinator-reply.ensures.answered)),
  inv.4,
)
