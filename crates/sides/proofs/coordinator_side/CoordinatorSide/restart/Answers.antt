use Rattle.std.proofs.Common.{◌∙◌, ap, subst, sym}
use Rattle.sides.proofs.Words.{Identity, IsSoundThere, LogRestartedIn}
use Rattle.sides.proofs.LogOpenings.{restart_may_join}
use Rattle.sides.proofs.Sound.{log_is_there, log_restarts_sound}
use Rattle.sides.proofs.coordinator_side.CoordinatorSide.restart.Goals as goal

pub restart_coordinator-refusal-requires-clause-coordinator : goal.restart_coordinator-refusal-requires-clause-coordinator
restart_coordinator-refusal-requires-clause-coordinator g c = ap (λ (i : Identity). i.node) c.self.invariant.1

pub restart_coordinator-refusal-requires-clause-there : goal.restart_coordinator-refusal-requires-clause-there
restart_coordinator-refusal-requires-clause-there g c = log_is_there g.D.Device.state g.D.Device.honest g.B.Room.store g.B.Room.shards c.self.inside.node c.self.invariant.2

pub join-requires-clause-sound : goal.join-requires-clause-sound
join-requires-clause-sound g c =
    let over = subst (λ (me : Identity). LogRestartedIn g.D.Device.state g.D.Device.honest g.D.Device.moment g.D.Device.left_since me c.self.inside.node c.restart_coordinator-refusal.result c.restart_coordinator-refusal.new.node) c.self.invariant.1 c.restart_coordinator-refusal.ensures in
    log_restarts_sound g.D.Device.state g.D.Device.honest g.B.Room.store g.B.Room.shards g.D.Device.moment g.D.Device.left_since c.self.inside.node c.restart_coordinator-refusal.new.node c.restart_coordinator-refusal.result c.self.invariant.2 over

pub invariant_of-self : goal.invariant_of-self
invariant_of-self g c =
    let over = subst (λ (me : Identity). LogRestartedIn g.D.Device.state g.D.Device.honest g.D.Device.moment g.D.Device.left_since me c.self.inside.node c.restart_coordinator-refusal.result c.restart_coordinator-refusal.new.node) c.self.invariant.1 c.restart_coordinator-refusal.ensures in (
      c.join.ensures.same ∙ c.self.invariant.0,
      c.self.invariant.1,
      subst (IsSoundThere g.D.Device.state g.D.Device.honest g.B.Room.store g.B.Room.shards) (sym c.join.ensures.node)
          (log_restarts_sound g.D.Device.state g.D.Device.honest g.B.Room.store g.B.Room.shards g.D.Device.moment g.D.Device.left_since c.self.inside.node c.restart_coordinator-refusal.new.node c.restart_coordinator-refusal.result c.self.invariant.2 over),
      λ rests. c.join.ensures.tied c.self.inside.attempts.seen (restart_may_join g.D.Device.state g.D.Device.honest g.D.Device.moment g.D.Device.left_since g.met.D.Device.counts_now g.B.Room.store g.B.Room.shards c.self.inside.node c.restart_coordinator-refusal.new.node c.restart_coordinator-refusal.result c.self.inside.log.seen c.self.inside.log.horizon c.self.inside.attempts.seen (c.self.invariant.3 rests) over),
      c.self.invariant.4,
    )
