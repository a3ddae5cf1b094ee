use Rattle.std.proofs.Common.{inl, inr}
use Rattle.records.specs.Identity.{Identity}
use Rattle.journal.proofs.Calls.{not_stopped}
use Rattle.openings.proofs.Openings.{fails_to_reopen, leaves_weaker, reopens}
use Rattle.openings.proofs.opening.open.Goals as goal

pub returns-in-Err-clause-any_moment : goal.returns-in-Err-clause-any_moment
returns-in-Err-clause-any_moment g c = λ ha hb.
    leaves_weaker g.D.Device.moment g.D.Device.left_since c.args.a c.args.b c.in-Err.refused.a c.in-Err.refused.b _ _ (c.in-Err.ensures.any_moment ha hb) (λ x y was. inl was)

pub returns-in-Err-restored-clause-any_moment : goal.returns-in-Err-restored-clause-any_moment
returns-in-Err-restored-clause-any_moment g c = λ ha hb.
    let o = c.in-Ok.found.0 in
    let a = c.refuse.ensures.devices.0 in
    let b = c.refuse.ensures.devices.1 in
    rw (a, b) (leaves_weaker g.D.Device.moment g.D.Device.left_since c.args.a c.args.b o.a o.b _ _ (c.in-Ok.ensures.any_moment ha hb) (λ x y was. inl was))

pub returns-in-Ok-flush-clause-any_moment : goal.returns-in-Ok-flush-clause-any_moment
returns-in-Ok-flush-clause-any_moment g c = λ ha hb.
    let state = g.D.Device.state in
    let me : Identity = c.args.me in
    let o = c.in-Ok.found.0 in
    let r = c.in-Ok-restored.ensures.ok in
    let epoch = c.in-Ok-restored.restored.1 in
    reopens state g.D.Device.honest g.N.NodeKind.epoch_in c.args.a c.args.b me o r.0.rs epoch r.1 c.staged-journal.result c.staged-journal.ensures.staged g.D.Device.moment g.D.Device.left_since g.N.NodeKind.image c.flush.new.self.a c.flush.new.self.b
    (g.met.D.Device.reads_left c.args.a ha (not_stopped (state c.args.a).stopped (λ stopped. c.in-Ok.ensures.stopped (inl stopped))))
    (g.met.D.Device.reads_left c.args.b hb (not_stopped (state c.args.b).stopped (λ stopped. c.in-Ok.ensures.stopped (inr stopped)))) (c.in-Ok.ensures.opened ha hb r.0.rs r.0.found)
    (g.met.N.NodeKind.opens me r.0.rs c.requires r.0.image r.2) (c.in-Ok.ensures.any_moment ha hb) (c.in-Ok.ensures.honest.0.0 ha) (c.in-Ok.ensures.honest.1.0 hb) c.flush.ensures.any_moment

pub returns-in-Err-flush-clause-any_moment : goal.returns-in-Err-flush-clause-any_moment
returns-in-Err-flush-clause-any_moment g c = λ ha hb.
    let state = g.D.Device.state in
    let me : Identity = c.args.me in
    let o = c.in-Ok.found.0 in
    let r = c.in-Ok-restored.ensures.ok in
    let epoch = c.in-Ok-restored.restored.1 in
    let a = c.into_devices-a.ensures.0 in
    let b = c.into_devices-a.ensures.1 in
    rw (a, b) (reopens state g.D.Device.honest g.N.NodeKind.epoch_in c.args.a c.args.b me o r.0.rs epoch r.1 c.staged-journal.result c.staged-journal.ensures.staged g.D.Device.moment g.D.Device.left_since g.N.NodeKind.image c.flush.new.self.a c.flush.new.self.b
    (g.met.D.Device.reads_left c.args.a ha (not_stopped (state c.args.a).stopped (λ stopped. c.in-Ok.ensures.stopped (inl stopped))))
    (g.met.D.Device.reads_left c.args.b hb (not_stopped (state c.args.b).stopped (λ stopped. c.in-Ok.ensures.stopped (inr stopped)))) (c.in-Ok.ensures.opened ha hb r.0.rs r.0.found)
    (g.met.N.NodeKind.opens me r.0.rs c.requires r.0.image r.2) (c.in-Ok.ensures.any_moment ha hb) (c.in-Ok.ensures.honest.0.0 ha) (c.in-Ok.ensures.honest.1.0 hb) c.flush.ensures.any_moment)

pub returns-in-Err-flush-clause-down : goal.returns-in-Err-flush-clause-down
returns-in-Err-flush-clause-down g c = λ is.
    let me : Identity = c.args.me in
    let o = c.in-Ok.found.0 in
    let r = c.in-Ok-restored.ensures.ok in
    let epoch = c.in-Ok-restored.restored.1 in
    let a = c.into_devices-a.ensures.0 in
    let b = c.into_devices-a.ensures.1 in
    rw (a, b) (fails_to_reopen g.D.Device.state g.D.Device.honest g.N.NodeKind.epoch_in c.args.a c.args.b me o r.0.rs epoch r.1 c.staged-journal.result c.staged-journal.ensures.staged (λ ha hb. c.in-Ok.ensures.opened ha hb r.0.rs r.0.found)
    c.in-Ok.ensures.honest.0.0 c.in-Ok.ensures.honest.1.0 c.in-Ok.ensures.counts_a c.in-Ok.ensures.counts_b c.flush.new.self c.in-Err-flush.ensures.cause)
