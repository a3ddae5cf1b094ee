use Rattle.std.proofs.Common.{◌≡◌, ◌≤◌, ◌<◌, ◌+◌, length, false, refl, sym, subst, arith}
use Rattle.gated.specs.Gated.{LogView, max_device}
use Rattle.gated.proofs.WrittenAhead.{at_within}
use Rattle.gated.proofs.log.GatedLog.write_ahead.Goals as goal

pub returns-then-self-buf-clause-full : goal.returns-then-self-buf-clause-full
returns-then-self-buf-clause-full g c = λ is.
    let P : LogView g.row.D.Denot → Type 0 = λ v. (max_device ≤ v.at + length c.args.buf.now)
    × (g.D.Device.honest v.device → (g.D.Device.state v.device).stopped ≡ false → v.at < length (g.D.Device.state v.device).seen) in
    let full : P c.args.self.now = subst P c.self.view_is (
      omega arith,
      λ hon up. let has = c.self.invariant.1 hon up in at_within (g.D.Device.state c.self.inside.device) c.self.inside.end c.self.inside.at has.ahead has.is,
    ) in
    (refl, full.0, full.1)

pub returns-in-Ok-clause-any_moment : goal.returns-in-Ok-clause-any_moment
returns-in-Ok-clause-any_moment g c = rw (sym c.self.view_is) c.put_ahead.ensures.any_moment

pub returns-in-Err-clause-any_moment : goal.returns-in-Err-clause-any_moment
returns-in-Err-clause-any_moment g c = rw (sym c.self.view_is) c.put_ahead.ensures.any_moment
