use Rattle.std.proofs.Common.{inl, inr, ℕ, subst}
use Rattle.std.proofs.lemmas.Result.{on_ok_weaker}
use Rattle.reshard.specs.Merging.{merged}
use Rattle.reshard.specs.Made.{AreHonest, HaveShards}
use Rattle.reshard.specs.Written.{EndsLast}
use Rattle.reshard.proofs.Written.{ends_last, on_ok_always}
use Rattle.reshard.proofs.filling.fill.Goals as goal

pub returns-clause-each : goal.returns-clause-each
returns-clause-each g c = λ all.
    let before = c.in_ok-fill_shards.ensures.ok all in
    let state = g.D.Device.state in
    on_ok_weaker c.fill_log.result
    (λ log. subst (λ (store : ℕ). HaveShards state store c.args.shards c.args.reach (merged c.args.rows.now) c.args.shards c.fill_log.new.begun) c.store.ensures
    (λ s below n there. before s below n (c.fill_log.ensures.others s n there)))
    (c.fill_log.ensures.ok (c.fill_shards.ensures.honest all))

pub returns-in_err-fill_shards-clause-tried : goal.returns-in_err-fill_shards-clause-tried
returns-in_err-fill_shards-clause-tried g c = λ head others is. inl (c.fill_shards.ensures.head head others is)

pub returns-clause-honest : goal.returns-clause-honest
returns-clause-honest g c = λ all. c.fill_log.ensures.honest (c.fill_shards.ensures.honest all)

pub returns-clause-last : goal.returns-clause-last
returns-clause-last g c = λ head others is.
    let state = g.D.Device.state in
    on_ok_always (EndsLast state g.D.Device.honest g.D.Device.moment g.D.Device.left_since c.args.old.now c.args.shards c.args.reach (merged c.args.rows.now) (AreHonest g.D.Device.honest c.args.begun.now) head c.fill_log.new.begun) c.fill_log.result
    (ends_last state g.D.Device.honest g.D.Device.moment g.D.Device.left_since c.args.old.now c.args.shards c.args.reach (merged c.args.rows.now) (AreHonest g.D.Device.honest c.args.begun.now) c.args.begun.now c.fill_shards.new.begun c.fill_log.new.begun
    c.fill_shards.ensures.head
    (λ fine. subst (λ (store : ℕ). HaveShards state store c.args.shards c.args.reach (merged c.args.rows.now) c.args.shards c.fill_shards.new.begun) c.store.ensures (c.in_ok-fill_shards.ensures.ok fine))
    c.fill_log.ensures.ends head others is)

pub returns-clause-tried : goal.returns-clause-tried
returns-clause-tried g c = λ head others is.
    let state = g.D.Device.state in
    inr (ends_last state g.D.Device.honest g.D.Device.moment g.D.Device.left_since c.args.old.now c.args.shards c.args.reach (merged c.args.rows.now) (AreHonest g.D.Device.honest c.args.begun.now) c.args.begun.now c.fill_shards.new.begun c.fill_log.new.begun
    c.fill_shards.ensures.head
    (λ fine. subst (λ (store : ℕ). HaveShards state store c.args.shards c.args.reach (merged c.args.rows.now) c.args.shards c.fill_shards.new.begun) c.store.ensures (c.in_ok-fill_shards.ensures.ok fine))
    c.fill_log.ensures.ends head others is)
