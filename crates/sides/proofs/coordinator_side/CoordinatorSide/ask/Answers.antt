use Rattle.std.proofs.Common.{◌≡◌, ◌++◌, ◌∙◌, ℕ, List, ap, subst, sym}
use Rattle.sides.proofs.Words.{Attempt, CoordinatorCall, Entry, IsTiedThere, Known, tried_by}
use Rattle.sides.specs.CoordinatorSides.{LogSide, TellsOf, write_of}
use Rattle.sides.specs.Lending.{LogStagesMoreIn}
use Rattle.sides.proofs.CoordinatorCalls.{log_call_stays}
use Rattle.sides.proofs.CoordinatorTelling.{call_tells}
use Rattle.sides.proofs.LogStaging.{log_stages_more}
use Rattle.sides.proofs.Sound.{log_may_ask, log_stays_sound}
use Rattle.sides.proofs.coordinator_side.CoordinatorSide.ask.Goals as goal

pub ask_coordinator-reply-requires : goal.ask_coordinator-reply-requires
ask_coordinator-reply-requires g c = log_may_ask g.D.Device.state g.D.Device.honest g.B.Room.store g.B.Room.shards c.self.inside.node c.args.call c.self.invariant.2 c.requires.owed

pub invariant_of-self : goal.invariant_of-self
invariant_of-self g c =
    let inv = c.self.invariant in
    let same = c.meet.ensures.same.0 in
    let met = c.meet-2.ensures.same.0 in
    let reply = c.ask_coordinator-reply.result in
    let answered = c.ask_coordinator-reply.ensures.answered in
    let tried : c.meet-2.new.log.seen ≡ c.self.inside.attempts.seen ++ tried_by (write_of c.args.call) reply =
    ap (λ (k : Known Attempt). k.seen) met ∙ c.note_decision.ensures.added ∙ ap (λ (call : CoordinatorCall). c.self.inside.attempts.seen ++ tried_by (write_of call) reply) c.of-was.ensures in (
      ap (λ (k : Known Entry). k.table) same ∙ inv.0,
      inv.1,
      log_stays_sound g.D.Device.state g.D.Device.honest g.B.Room.store g.B.Room.shards g.D.Device.moment g.D.Device.left_since c.args.call c.self.inside.node c.ask_coordinator-reply.new.node reply inv.2 answered,
      λ rests. subst (λ (k : Known Entry). IsTiedThere g.D.Device.state g.D.Device.honest g.B.Room.store g.B.Room.shards c.ask_coordinator-reply.new.node k.seen k.horizon c.meet-2.new.log.seen) (sym same)
          (subst (λ (l : List Attempt). IsTiedThere g.D.Device.state g.D.Device.honest g.B.Room.store g.B.Room.shards c.ask_coordinator-reply.new.node c.self.inside.log.seen c.self.inside.log.horizon l) (sym tried)
          (log_call_stays g.D.Device.state g.D.Device.honest g.D.Device.moment g.D.Device.left_since g.B.Room.store g.B.Room.shards c.self.inside.log.seen c.self.inside.log.horizon c.self.inside.attempts.seen c.args.call c.requires.no_flush c.self.inside.node c.ask_coordinator-reply.new.node reply (inv.3 rests) answered)),
      ap (λ (k : Known Attempt). k.table) met ∙ c.note_decision.ensures.same ∙ inv.4,
    )

pub returns-clause-tells : goal.returns-clause-tells
returns-clause-tells g c rests =
    let reply = c.ask_coordinator-reply.result in
    let tried : c.meet-2.new.pass.seen ≡ c.self.inside.attempts.seen ++ tried_by (write_of c.args.call) reply =
    c.meet-2.ensures.all ∙ c.note_decision.ensures.added ∙ ap (λ (call : CoordinatorCall). c.self.inside.attempts.seen ++ tried_by (write_of call) reply) c.of-was.ensures in
    let tells = call_tells g.D.Device.state g.D.Device.honest g.D.Device.moment g.D.Device.left_since g.B.Room.store g.B.Room.shards c.self.inside.log.seen c.self.inside.log.horizon c.self.inside.attempts.seen c.args.call c.self.inside.node c.ask_coordinator-reply.new.node reply (c.self.invariant.3 rests) c.ask_coordinator-reply.ensures.answered in
    subst (λ (l : List Entry). TellsOf l c.meet.new.pass.horizon c.meet-2.new.pass.seen c.args.call reply) (sym c.meet.ensures.all)
    (subst (λ (n : ℕ). TellsOf c.self.inside.log.seen n c.meet-2.new.pass.seen c.args.call reply) (sym c.meet.ensures.horizon.0)
    (subst (λ (l : List Attempt). TellsOf c.self.inside.log.seen c.self.inside.log.horizon l c.args.call reply) (sym tried) tells))

pub returns-clause-staged : goal.returns-clause-staged
returns-clause-staged g c =
    subst (λ (v : LogSide g.row.D.Denot). LogStagesMoreIn v.node c.ask_coordinator-reply.new.node) c.self.view_is
    (log_stages_more g.D.Device.state g.D.Device.honest g.D.Device.moment g.D.Device.left_since g.B.Room.store g.B.Room.shards c.args.call c.self.inside.node c.ask_coordinator-reply.new.node c.ask_coordinator-reply.result c.requires.no_flush c.self.invariant.2 c.ask_coordinator-reply.ensures.answered)
