use Rattle.std.proofs.Common.{◌≡◌, ◌⊎◌, ◌+◌, ◌++◌, ◌∙◌, All, inr, length, take, drop, sym, subst, arith}
use Rattle.std.proofs.lemmas.Result.{IfErr-weaker, err_from_is_err_and, on_ok_weaker}
use Rattle.cluster.proofs.Places.{whole}
use Rattle.reshard.specs.Merging.{merged}
use Rattle.refusal.specs.declared.refusal.Refusal.TheVariants.{Down, NoMemory}
use Rattle.reshard.specs.Made.{AreHonest, HasLog, HaveShards}
use Rattle.reshard.specs.Refusing.{IsNotWritten, LacksLog}
use Rattle.reshard.specs.Written.{EndsLast, HasTried}
use Rattle.reshard.proofs.Written.{begun_not, ends_last_weaker, first_begun, head_tried, on_ok_always, tried_weaker, written_not}
use Rattle.reshard.proofs.resharding.write.Goals as goal

pub returns-in_err-begin_all-clause-so_far : goal.returns-in_err-begin_all-clause-so_far
returns-in_err-begin_all-clause-so_far g c = head_tried g.D.Device.state g.D.Device.honest g.D.Device.moment g.D.Device.left_since c.args.old.now c.args.shards c.args.known.now.reach (merged c.args.known.now.rows) c.args.devices.now.items c.begin_all.new.devices.items c.begin_all.new.begun.items c.begin_all.ensures.head

pub returns-clause-count : goal.returns-clause-count
returns-clause-count g c = on_ok_always (c.begin_all.new.begun.len ≡ c.args.shards + 1) c.fill.result (omega (arith, c.in_ok-begin_all.ensures.ok, c.count.ensures.value))

pub returns-clause-honest : goal.returns-clause-honest
returns-clause-honest g c = λ all.
    let b = c.begin_all.new.begun in
    let new = c.fill.new.begun in
    let same : take b.len (new ++ drop (length new) b.items) ≡ new = whole b.len new b.items b.ok.0 (omega (arith, c.fill.auto.begun, c.deref_mut.ensures.len, b.ok.0)) in
    let honest = g.D.Device.honest in
    let were = subst (AreHonest honest) (sym c.deref_mut.ensures.value) (c.in_ok-begin_all.ensures.honest all) in
    on_ok_always (AreHonest honest (take b.len (new ++ drop (length new) b.items))) c.fill.result (subst (AreHonest honest) (sym same) (c.fill.ensures.honest were))

pub returns-clause-each : goal.returns-clause-each
returns-clause-each g c = λ all.
    let b = c.begin_all.new.begun in
    let new = c.fill.new.begun in
    let same : take b.len (new ++ drop (length new) b.items) ≡ new = whole b.len new b.items b.ok.0 (omega (arith, c.fill.auto.begun, c.deref_mut.ensures.len, b.ok.0)) in
    let honest = g.D.Device.honest in
    let state = g.D.Device.state in
    let old = c.args.old.now in
    let shards = c.args.shards in
    let reach = c.args.known.now.reach in
    let were = subst (AreHonest honest) (sym c.deref_mut.ensures.value) (c.in_ok-begin_all.ensures.honest all) in
    on_ok_weaker c.fill.result
    (subst (HaveShards state old.store shards reach (merged c.args.known.now.rows) shards) (sym same))
    (c.fill.ensures.each were)

pub returns-clause-log : goal.returns-clause-log
returns-clause-log g c = λ all.
    let b = c.begin_all.new.begun in
    let new = c.fill.new.begun in
    let same : take b.len (new ++ drop (length new) b.items) ≡ new = whole b.len new b.items b.ok.0 (omega (arith, c.fill.auto.begun, c.deref_mut.ensures.len, b.ok.0)) in
    let honest = g.D.Device.honest in
    let were = subst (AreHonest honest) (sym c.deref_mut.ensures.value) (c.in_ok-begin_all.ensures.honest all) in
    on_ok_weaker c.fill.result (subst (HasLog g.D.Device.state honest c.args.old.now c.args.shards) (sym same)) (c.fill.ensures.log were)

pub returns-clause-order : goal.returns-clause-order
returns-clause-order g c =
    let b = c.begin_all.new.begun in
    let new = c.fill.new.begun in
    let same : take b.len (new ++ drop (length new) b.items) ≡ new = whole b.len new b.items b.ok.0 (omega (arith, c.fill.auto.begun, c.deref_mut.ensures.len, b.ok.0)) in
    let state = g.D.Device.state in
    let honest = g.D.Device.honest in
    let moment = g.D.Device.moment in
    let since = g.D.Device.left_since in
    let old = c.args.old.now in
    let shards = c.args.shards in
    let reach = c.args.known.now.reach in
    let rows = (merged c.args.known.now.rows) in
    let given = c.args.devices.now.items in
    let fine = All honest given in
    let f = first_begun state honest moment since old shards given c.begin_all.new.devices.items b.items shards (omega (arith, c.in_ok-begin_all.ensures.ok, b.ok.0)) c.in_ok-begin_all.ensures.head in
    let were : fine → AreHonest honest c.deref_mut.result.now = λ all. subst (AreHonest honest) (sym c.deref_mut.ensures.value) (c.in_ok-begin_all.ensures.honest all) in
    on_ok_weaker c.fill.result
    (λ ended. (
      f.0,
      f.3,
      ends_last_weaker state honest moment since old shards reach rows (AreHonest honest c.deref_mut.result.now) fine f.0 (take b.len (new ++ drop (length new) b.items)) were
          (subst (EndsLast state honest moment since old shards reach rows (AreHonest honest c.deref_mut.result.now) f.0) (sym same) ended),
    ))
    (c.fill.ensures.last f.0 f.1 (c.deref_mut.ensures.value ∙ f.2))

pub returns-clause-so_far : goal.returns-clause-so_far
returns-clause-so_far g c =
    let b = c.begin_all.new.begun in
    let new = c.fill.new.begun in
    let same : take b.len (new ++ drop (length new) b.items) ≡ new = whole b.len new b.items b.ok.0 (omega (arith, c.fill.auto.begun, c.deref_mut.ensures.len, b.ok.0)) in
    let state = g.D.Device.state in
    let honest = g.D.Device.honest in
    let moment = g.D.Device.moment in
    let since = g.D.Device.left_since in
    let old = c.args.old.now in
    let shards = c.args.shards in
    let reach = c.args.known.now.reach in
    let rows = merged c.args.known.now.rows in
    let given = c.args.devices.now.items in
    let f = first_begun state honest moment since old shards given c.begin_all.new.devices.items b.items shards (omega (arith, c.in_ok-begin_all.ensures.ok, b.ok.0)) c.in_ok-begin_all.ensures.head in
    let were : All honest given → AreHonest honest c.deref_mut.result.now = λ all. subst (AreHonest honest) (sym c.deref_mut.ensures.value) (c.in_ok-begin_all.ensures.honest all) in
    inr (
      f.0,
      f.3,
      tried_weaker state honest moment since old shards reach rows (AreHonest honest c.deref_mut.result.now) (All honest given) f.0 (take b.len (new ++ drop (length new) b.items)) were
          (subst (HasTried state honest moment since old shards reach rows (AreHonest honest c.deref_mut.result.now) f.0) (sym same) (c.fill.ensures.tried f.0 f.1 (c.deref_mut.ensures.value ∙ f.2))),
    )

pub returns-in_err-begin_all-clause-err : goal.returns-in_err-begin_all-clause-err
returns-in_err-begin_all-clause-err g c =
    let p = err_from_is_err_and c.from_residual.result c.from_residual.ensures.1 in
    rw (p.1, p.2)
    (begun_not g.D.Device.state g.D.Device.honest c.args.devices.now.items c.args.old.now.nodes c.begin_all.result _ c.in_err-begin_all.was c.in_err-begin_all.ensures.err
    (λ bad. c.in_err-begin_all.ensures.damaged (sym c.in_err-begin_all.was ∙ bad)))

pub returns-clause-err : goal.returns-clause-err
returns-clause-err g c =
    let nodes = c.args.old.now.nodes in
    let given = c.args.devices.now.items in
    IfErr-weaker c.fill.result (λ e. (e ≡ Down) ⊎ ((e ≡ NoMemory) ⊎ LacksLog nodes e)) (IsNotWritten g.D.Device.state g.D.Device.honest given nodes) (λ e why. written_not g.D.Device.state g.D.Device.honest given nodes e why) c.fill.ensures.err
