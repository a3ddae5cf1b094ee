use Rattle.std.proofs.Common.{◌≡◌, ℕ, [], false, arith, subst, rules}
use Rattle.gated.specs.Gated.{HasList, IsReady, LogView}
use Rattle.gated.proofs.Cleared.{none_listed}
use Rattle.gated.proofs.WrittenAhead.{none_ahead, ready_of}
use Rattle.gated.proofs.log.GatedLog.clear.Goals as goal

pub returns-then-self-eq0-clause-ok : goal.returns-then-self-eq0-clause-ok
returns-then-self-eq0-clause-ok g c =
    let s = g.D.Device.state c.self.inside.device in
    let P : LogView g.row.D.Denot → Type 0 = λ v. g.D.Device.honest v.device → (g.D.Device.state v.device).stopped ≡ false → HasList s [] in
    subst P c.self.view_is (λ hon up.
    let has = c.self.invariant.1 hon up in
    none_listed s (subst (λ (n : ℕ). IsReady s n) c.if-self-eq0.true (ready_of s c.self.inside.end c.self.inside.at has.ahead has.is)))

pub invariant_of-self : goal.invariant_of-self
invariant_of-self g c = search rules

pub invariant_of-self-in-Ok : goal.invariant_of-self-in-Ok
invariant_of-self-in-Ok g c = (omega arith, λ hon up. record { ahead = []; is = none_ahead (g.D.Device.state c.close_first.new.device) 0 (c.in-Ok.ensures.ready (c.close_first.ensures.honest.1 hon)) })

pub returns-then-self-eq0-clause-any_moment : goal.returns-then-self-eq0-clause-any_moment
returns-then-self-eq0-clause-any_moment g c = search rules

pub returns-then-self-eq0-clause-ahead : goal.returns-then-self-eq0-clause-ahead
returns-then-self-eq0-clause-ahead g c = search rules

pub returns-then-self-eq0-clause-up : goal.returns-then-self-eq0-clause-up
returns-then-self-eq0-clause-up g c = search rules

pub returns-then-self-eq0-clause-none : goal.returns-then-self-eq0-clause-none
returns-then-self-eq0-clause-none g c = search rules

pub returns-then-self-eq0-clause-closed : goal.returns-then-self-eq0-clause-closed
returns-then-self-eq0-clause-closed g c = search rules
