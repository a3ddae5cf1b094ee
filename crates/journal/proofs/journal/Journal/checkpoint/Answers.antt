use Rattle.std.proofs.Common.{◌≡◌, ◌+◌, ◌≤◌, ◌<◌, ℕ, false, refl, ◌∙◌, ap, subst, arith}
use Rattle.records.specs.Checkpoints.{generation_of}
use Rattle.records.specs.Replays.{greatest_number}
use Rattle.journal.specs.Ahead.{HasOldOrNewOr, checkpoint_of}
use Rattle.journal.specs.Records.{HasRecords, View, durable_of, LeavesEach}
use Rattle.journal.proofs.Flushes.{led_generation, led_have}
use Rattle.journal.proofs.Replaced.{each_same, none_plain}
use Rattle.journal.proofs.journal.Journal.checkpoint.Goals as goal

pub returns-then-self-ge-MAX_NUMBER-clause-any_moment : goal.returns-then-self-ge-MAX_NUMBER-clause-any_moment
returns-then-self-ge-MAX_NUMBER-clause-any_moment g c =
    let rs = g.S.Source.records c.args.source.now in
    let P : View g.row.D.Denot → Type 0 = λ v. g.D.Device.honest v.a → g.D.Device.honest v.b → v.is_down ≡ false
    → LeavesEach g.D.Device.moment g.D.Device.left_since v.a v.b v.a v.b (HasOldOrNewOr v.durable v.staged (checkpoint_of (generation_of v.durable + 1) rs)) in
    subst P c.self.view_is (λ hon_a hon_b up.
    let a = c.self.inside.a.device in
    let b = c.self.inside.b.device in
    each_same g.D.Device.state g.D.Device.moment g.D.Device.left_since a b _ c.self.inside.staged _ (led_have (g.D.Device.state a) (g.D.Device.state b) _ _ ((c.self.invariant.1 up).2 hon_a hon_b))
    (λ x is. g.met.D.Device.only_now a x hon_a is) (λ x is. g.met.D.Device.only_now b x hon_b is))

pub returns-in_default-clause-any_moment : goal.returns-in_default-clause-any_moment
returns-in_default-clause-any_moment g c =
    let rs = g.S.Source.records c.args.source.now in
    let P : View g.row.D.Denot → Type 0 = λ v. g.D.Device.honest v.a → g.D.Device.honest v.b → v.is_down ≡ false
    → LeavesEach g.D.Device.moment g.D.Device.left_since v.a v.b v.a v.b (HasOldOrNewOr v.durable v.staged (checkpoint_of (generation_of v.durable + 1) rs)) in
    subst P c.self.view_is (λ hon_a hon_b up.
    let a = c.self.inside.a.device in
    let b = c.self.inside.b.device in
    each_same g.D.Device.state g.D.Device.moment g.D.Device.left_since a b _ c.self.inside.staged _ (led_have (g.D.Device.state a) (g.D.Device.state b) _ _ ((c.self.invariant.1 up).2 hon_a hon_b))
    (λ x is. g.met.D.Device.only_now a x hon_a is) (λ x is. g.met.D.Device.only_now b x hon_b is))

pub returns-then-self-ge-MAX_NUMBER-clause-full : goal.returns-then-self-ge-MAX_NUMBER-clause-full
returns-then-self-ge-MAX_NUMBER-clause-full g c = λ hon_a hon_b is.
    let P : View g.row.D.Denot → Type 0 = λ v. g.D.Device.honest v.a → g.D.Device.honest v.b → greatest_number ≤ generation_of v.durable in
    subst P c.self.view_is (λ ha hb.
    let same = led_generation (g.D.Device.state c.self.inside.a.device) (g.D.Device.state c.self.inside.b.device) _ _ ((c.self.invariant.1 c.if-self.false).2 ha hb) in
    omega (arith, same, c.if-self-ge-MAX_NUMBER.true)) hon_a hon_b

pub returns-in-Ok-written-clause-next : goal.returns-in-Ok-written-clause-next
returns-in-Ok-written-clause-next g c =
    let P : View g.row.D.Denot → Type 0 = λ v. g.D.Device.honest v.a → g.D.Device.honest v.b → generation_of v.durable < greatest_number in
    subst P c.self.view_is (λ ha hb.
    let same = led_generation (g.D.Device.state c.self.inside.a.device) (g.D.Device.state c.self.inside.b.device) _ _ ((c.self.invariant.1 c.if-self.false).2 ha hb) in
    omega (arith, same, c.if-self-ge-MAX_NUMBER.false))

pub returns-in_default-clause-last : goal.returns-in_default-clause-last
returns-in_default-clause-last g c = λ hon_a hon_b up past.
    let P : View g.row.D.Denot → Type 0 = λ v. g.D.Device.honest v.a → g.D.Device.honest v.b → generation_of v.durable < greatest_number in
    let small = subst P c.self.view_is (λ ha hb.
    let same = led_generation (g.D.Device.state c.self.inside.a.device) (g.D.Device.state c.self.inside.b.device) _ _ ((c.self.invariant.1 c.if-self.false).2 ha hb) in
    omega (arith, same, c.if-self-ge-MAX_NUMBER.false)) hon_a hon_b in
    absurd (omega (arith, small, past))

pub returns-in-Ok-written-clause-last : goal.returns-in-Ok-written-clause-last
returns-in-Ok-written-clause-last g c = λ hon_a hon_b up past.
    let P : View g.row.D.Denot → Type 0 = λ v. g.D.Device.honest v.a → g.D.Device.honest v.b → generation_of v.durable < greatest_number in
    let small = subst P c.self.view_is (λ ha hb.
    let same = led_generation (g.D.Device.state c.self.inside.a.device) (g.D.Device.state c.self.inside.b.device) _ _ ((c.self.invariant.1 c.if-self.false).2 ha hb) in
    omega (arith, same, c.if-self-ge-MAX_NUMBER.false)) hon_a hon_b in
    absurd (omega (arith, small, past))

pub returns-clause-last : goal.returns-clause-last
returns-clause-last g c = λ hon_a hon_b up past.
    let P : View g.row.D.Denot → Type 0 = λ v. g.D.Device.honest v.a → g.D.Device.honest v.b → generation_of v.durable < greatest_number in
    let small = subst P c.self.view_is (λ ha hb.
    let same = led_generation (g.D.Device.state c.self.inside.a.device) (g.D.Device.state c.self.inside.b.device) _ _ ((c.self.invariant.1 c.if-self.false).2 ha hb) in
    omega (arith, same, c.if-self-ge-MAX_NUMBER.false)) hon_a hon_b in
    absurd (omega (arith, small, past))

pub invariant_of-self : goal.invariant_of-self
invariant_of-self g c = (
  none_plain c.replace_other-written.new.staged c.replace_other-written.ensures.empty,
  λ up. (
    λ hon. c.in-Ok-written.ensures.rest_a (c.replace_other-written.ensures.honest.0.1 hon),
    λ hon. c.in-Ok-written.ensures.rest_b (c.replace_other-written.ensures.honest.1.1 hon),
    λ hon_a hon_b.
        let ha = c.replace_other-written.ensures.honest.0.1 hon_a in
        let hb = c.replace_other-written.ensures.honest.1.1 hon_b in
        (c.in-Ok-written.ensures.ok c.self.inside.generation refl ha hb ((c.self.invariant.1 up).2 ha hb)).0,
  ),
)

pub returns-in-Ok-written-clause-any_moment : goal.returns-in-Ok-written-clause-any_moment
returns-in-Ok-written-clause-any_moment g c =
    let rs = g.S.Source.records c.args.source.now in
    let new_a = c.replace_other-written.new.a.device in
    let new_b = c.replace_other-written.new.b.device in
    let P : View g.row.D.Denot → Type 0 = λ v. g.D.Device.honest v.a → g.D.Device.honest v.b → v.is_down ≡ false
    → LeavesEach g.D.Device.moment g.D.Device.left_since v.a v.b new_a new_b (HasOldOrNewOr v.durable v.staged (checkpoint_of (generation_of v.durable + 1) rs)) in
    subst P c.self.view_is (λ hon_a hon_b up.
    let a = c.self.inside.a.device in
    let b = c.self.inside.b.device in
    let led = (c.self.invariant.1 up).2 hon_a hon_b in
    subst (λ (n : ℕ). LeavesEach g.D.Device.moment g.D.Device.left_since a b new_a new_b (HasOldOrNewOr (durable_of (g.D.Device.state a) (g.D.Device.state b)) c.self.inside.staged (checkpoint_of (n + 1) rs)))
    (led_generation (g.D.Device.state a) (g.D.Device.state b) _ _ led) (c.replace_other-written.ensures.any_moment c.self.inside.generation refl hon_a hon_b led))

pub returns-in-Ok-written-clause-ok : goal.returns-in-Ok-written-clause-ok
returns-in-Ok-written-clause-ok g c =
    let rs = g.S.Source.records c.args.source.now in
    let sa = g.D.Device.state c.replace_other-written.new.a.device in
    let sb = g.D.Device.state c.replace_other-written.new.b.device in
    let P : View g.row.D.Denot → Type 0 = λ v. g.D.Device.honest v.a → g.D.Device.honest v.b → (durable_of sa sb ≡ checkpoint_of (generation_of v.durable + 1) rs) × HasRecords sa sb (durable_of sa sb) in
    subst P c.self.view_is (λ hon_a hon_b.
    let led = (c.self.invariant.1 c.if-self.false).2 hon_a hon_b in
    let new = c.in-Ok-written.ensures.ok c.self.inside.generation refl hon_a hon_b led in (
      new.1 ∙ ap (λ (n : ℕ). checkpoint_of (n + 1) rs) (led_generation (g.D.Device.state c.self.inside.a.device) (g.D.Device.state c.self.inside.b.device) _ _ led),
      led_have sa sb _ _ new.0,
    ))

pub returns-clause-any_moment : goal.returns-clause-any_moment
returns-clause-any_moment g c =
    let rs = g.S.Source.records c.args.source.now in
    let new_a = c.replace_other-written.new.a.device in
    let new_b = c.replace_other-written.new.b.device in
    let P : View g.row.D.Denot → Type 0 = λ v. g.D.Device.honest v.a → g.D.Device.honest v.b → v.is_down ≡ false
    → LeavesEach g.D.Device.moment g.D.Device.left_since v.a v.b new_a new_b (HasOldOrNewOr v.durable v.staged (checkpoint_of (generation_of v.durable + 1) rs)) in
    subst P c.self.view_is (λ hon_a hon_b up.
    let a = c.self.inside.a.device in
    let b = c.self.inside.b.device in
    let led = (c.self.invariant.1 up).2 hon_a hon_b in
    subst (λ (n : ℕ). LeavesEach g.D.Device.moment g.D.Device.left_since a b new_a new_b (HasOldOrNewOr (durable_of (g.D.Device.state a) (g.D.Device.state b)) c.self.inside.staged (checkpoint_of (n + 1) rs)))
    (led_generation (g.D.Device.state a) (g.D.Device.state b) _ _ led) (c.replace_other-written.ensures.any_moment c.self.inside.generation refl hon_a hon_b led))
