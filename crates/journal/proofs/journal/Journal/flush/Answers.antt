use Rattle.std.proofs.Common.{◌≡◌, ◌++◌, List, false, sym, ◌∙◌, ap, subst, arith, rules}
use Rattle.std.proofs.lemmas.List.{append-nil}
use Rattle.journal.specs.Records.{View, HasRecords, HasOldOrNew, LeavesBoth, durable_of}
use Rattle.records.specs.declared.record.Record.{Record}
use Rattle.journal.proofs.Flushes.{both_same, led_have}
use Rattle.journal.proofs.Staged.{nothing}
use Rattle.journal.proofs.journal.Journal.flush.Goals as goal

pub returns-then-len-eq0-clause-any_moment : goal.returns-then-len-eq0-clause-any_moment
returns-then-len-eq0-clause-any_moment g c =
    let P : View g.row.D.Denot → Type 0 = λ v. g.D.Device.honest v.a → g.D.Device.honest v.b → v.is_down ≡ false
    → LeavesBoth g.D.Device.moment g.D.Device.left_since v.a v.b v.a v.b (HasOldOrNew v.durable v.staged) in
    subst P c.self.view_is (λ hon_a hon_b up.
    let a = c.self.inside.a.device in
    let b = c.self.inside.b.device in
    let sa = g.D.Device.state a in
    let sb = g.D.Device.state b in
    both_same g.D.Device.state g.D.Device.moment g.D.Device.left_since a b (durable_of sa sb) c.self.inside.staged (led_have sa sb _ _ ((c.self.invariant.1 up).2 hon_a hon_b))
    (λ x is. g.met.D.Device.only_now a x hon_a is) (λ x is. g.met.D.Device.only_now b x hon_b is))

pub returns-then-len-eq0-clause-ok : goal.returns-then-len-eq0-clause-ok
returns-then-len-eq0-clause-ok g c =
    let P : View g.row.D.Denot → Type 0 = λ v. g.D.Device.honest v.a → g.D.Device.honest v.b → (v.durable ≡ v.durable ++ v.staged) × HasRecords (g.D.Device.state v.a) (g.D.Device.state v.b) v.durable in
    subst P c.self.view_is (λ hon_a hon_b.
    let sa = g.D.Device.state c.self.inside.a.device in
    let sb = g.D.Device.state c.self.inside.b.device in
    let durable = durable_of sa sb in (
      sym (append-nil durable) ∙ ap (λ (l : List Record). durable ++ l) (nothing c.self.inside.staged (omega (arith, c.if-len-eq0.true, c.len.ensures))),
      led_have sa sb _ _ ((c.self.invariant.1 c.if-self.false).2 hon_a hon_b),
    ))

pub returns-in-Ok-clause-any_moment : goal.returns-in-Ok-clause-any_moment
returns-in-Ok-clause-any_moment g c =
    let P : View g.row.D.Denot → Type 0 = λ v. g.D.Device.honest v.a → g.D.Device.honest v.b → v.is_down ≡ false
    → LeavesBoth g.D.Device.moment g.D.Device.left_since v.a v.b c.append_current.new.a.device c.append_current.new.b.device (HasOldOrNew v.durable v.staged) in
    subst P c.self.view_is (λ hon_a hon_b up. c.append_current.ensures.any_moment _ hon_a hon_b ((c.self.invariant.1 up).2 hon_a hon_b))

pub returns-in-Err-clause-any_moment : goal.returns-in-Err-clause-any_moment
returns-in-Err-clause-any_moment g c =
    let P : View g.row.D.Denot → Type 0 = λ v. g.D.Device.honest v.a → g.D.Device.honest v.b → v.is_down ≡ false
    → LeavesBoth g.D.Device.moment g.D.Device.left_since v.a v.b c.append_current.new.a.device c.append_current.new.b.device (HasOldOrNew v.durable v.staged) in
    subst P c.self.view_is (λ hon_a hon_b up. c.append_current.ensures.any_moment _ hon_a hon_b ((c.self.invariant.1 up).2 hon_a hon_b))

pub returns-in-Ok-clause-ok : goal.returns-in-Ok-clause-ok
returns-in-Ok-clause-ok g c =
    let sa = g.D.Device.state c.append_current.new.a.device in
    let sb = g.D.Device.state c.append_current.new.b.device in
    let P : View g.row.D.Denot → Type 0 = λ v. g.D.Device.honest v.a → g.D.Device.honest v.b → (durable_of sa sb ≡ v.durable ++ v.staged) × HasRecords sa sb (durable_of sa sb) in
    subst P c.self.view_is (λ hon_a hon_b.
    let led = (c.self.invariant.1 c.if-self.false).2 hon_a hon_b in
    (c.in-Ok.ensures.ok _ hon_a hon_b led, led_have sa sb _ _ (c.in-Ok.ensures.led _ hon_a hon_b led)))

pub returns-in-Err-clause-err : goal.returns-in-Err-clause-err
returns-in-Err-clause-err g c = search rules
