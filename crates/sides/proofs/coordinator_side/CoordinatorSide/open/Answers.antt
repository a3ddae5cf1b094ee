use Rattle.std.proofs.Common.{List, [], Some, ◌∙◌, sym, subst}
use Rattle.sides.proofs.Words.{Attempt, Identity, IsSoundThere, IsTiedThere, LogReopens}
use Rattle.sides.proofs.LogOpenings.{opening_may_join}
use Rattle.sides.proofs.Sound.{log_opens_sound, opens_or_is_refused, reopened_runs}
use Rattle.sides.proofs.coordinator_side.CoordinatorSide.open.Goals as goal

pub returns-in-Some-clause-refused : goal.returns-in-Some-clause-refused
returns-in-Some-clause-refused g c =
    opens_or_is_refused g.D.Device.state g.D.Device.honest g.D.Device.moment g.D.Device.left_since c.args.me c.args.a c.args.b c.reopen-opened.result c.in-Some.refusal (sym c.refusal.ensures ∙ c.in-Some.is) c.reopen-opened.ensures

pub begin-requires-clause-runs : goal.begin-requires-clause-runs
begin-requires-clause-runs g c =
    let over = subst (λ (me : Identity). LogReopens g.D.Device.state g.D.Device.honest g.D.Device.moment g.D.Device.left_since me c.args.a c.args.b c.reopen-opened.result) c.requires.me c.reopen-opened.ensures in
    reopened_runs g.D.Device.state g.D.Device.honest g.B.Room.store g.B.Room.shards g.D.Device.moment g.D.Device.left_since c.args.a c.args.b c.reopen-opened.result c.requires.honest.0 c.requires.honest.1 (sym c.refusal.ensures ∙ c.in_default.is) over

pub invariant_of-result : goal.invariant_of-result
invariant_of-result g c =
    let over = subst (λ (me : Identity). LogReopens g.D.Device.state g.D.Device.honest g.D.Device.moment g.D.Device.left_since me c.args.a c.args.b c.reopen-opened.result) c.requires.me c.reopen-opened.ensures in (
      c.begin.ensures.same ∙ c.requires.own.0,
      c.requires.me,
      subst (IsSoundThere g.D.Device.state g.D.Device.honest g.B.Room.store g.B.Room.shards) (sym c.begin.ensures.node)
          (log_opens_sound g.D.Device.state g.D.Device.honest g.B.Room.store g.B.Room.shards g.D.Device.moment g.D.Device.left_since c.args.a c.args.b (Some c.reopen-opened.result) c.requires.honest.0 c.requires.honest.1 over),
      λ rests. subst (λ (l : List Attempt). IsTiedThere g.D.Device.state g.D.Device.honest g.B.Room.store g.B.Room.shards c.begin.new.node c.begin.new.log.seen c.begin.new.log.horizon l) (sym c.requires.empty.2) (c.begin.ensures.tied
          (opening_may_join g.D.Device.state g.D.Device.honest g.D.Device.moment g.D.Device.left_since g.met.D.Device.counts_now g.B.Room.store g.B.Room.shards c.args.a c.args.b (Some c.reopen-opened.result) g.B.Room.first g.B.Room.low [] (c.requires.anywhere rests) over)).0,
      c.requires.own.1,
    )

pub returns-clause-list : goal.returns-clause-list
returns-clause-list g c rests =
    let over = subst (λ (me : Identity). LogReopens g.D.Device.state g.D.Device.honest g.D.Device.moment g.D.Device.left_since me c.args.a c.args.b c.reopen-opened.result) c.requires.me c.reopen-opened.ensures in
    let it = c.begin.ensures.tied
    (opening_may_join g.D.Device.state g.D.Device.honest g.D.Device.moment g.D.Device.left_since g.met.D.Device.counts_now g.B.Room.store g.B.Room.shards c.args.a c.args.b (Some c.reopen-opened.result) g.B.Room.first g.B.Room.low [] (c.requires.anywhere rests) over) in
    (it.1, it.2)
