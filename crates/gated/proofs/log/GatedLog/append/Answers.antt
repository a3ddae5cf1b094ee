use Rattle.std.proofs.Common.{◌≡◌, ◌≤◌, ◌<◌, ◌+◌, [], length, false, refl, sym, subst, arith, rules}
use Rattle.gated.specs.Gated.{IsReady, LogView, max_device}
use Rattle.gated.proofs.Appends.{room_first}
use Rattle.gated.proofs.WrittenAhead.{none_ahead, ready_of}
use Rattle.gated.proofs.log.GatedLog.append.Goals as goal

pub append_at-requires-clause-ready : goal.append_at-requires-clause-ready
append_at-requires-clause-ready g c = λ hon up.
    let has = c.self.invariant.1 hon up in ready_of (g.D.Device.state c.self.inside.device) c.self.inside.end c.self.inside.at has.ahead has.is

pub returns-then-self-buf-clause-full : goal.returns-then-self-buf-clause-full
returns-then-self-buf-clause-full g c = λ is.
    let P : LogView g.row.D.Denot → Type 0 = λ v. (max_device ≤ v.end + length c.args.buf.now)
    × (g.D.Device.honest v.device → (g.D.Device.state v.device).stopped ≡ false → v.end < length (g.D.Device.state v.device).seen) in
    let full : P c.args.self.now = subst P c.self.view_is (
      omega arith,
      λ hon up.
          let has = c.self.invariant.1 hon up in
          let room = room_first (g.D.Device.state c.self.inside.device) c.self.inside.end (ready_of (g.D.Device.state c.self.inside.device) c.self.inside.end c.self.inside.at has.ahead has.is) in
          omega (arith, room),
    ) in
    (refl, full.0, full.1)

pub returns-in-Ok-clause-any_moment : goal.returns-in-Ok-clause-any_moment
returns-in-Ok-clause-any_moment g c = rw (sym c.self.view_is) c.append_at.ensures.any_moment

pub invariant_of-self : goal.invariant_of-self
invariant_of-self g c = (
  omega arith,
  λ hon up.
      let new = g.D.Device.state c.append_at.new.device in
      let ready = c.in-Ok.ensures.ready (c.append_at.ensures.honest.1 hon) in
      let len = c.append_at.auto.buf in
      record { ahead = []; is = none_ahead new (c.self.inside.end + length c.append_at.new.buf) (subst (λ n. IsReady new (c.self.inside.end + n)) (sym len) ready) },
)

pub returns-in-Ok-clause-ok : goal.returns-in-Ok-clause-ok
returns-in-Ok-clause-ok g c = search rules

pub returns-in-Err-clause-any_moment : goal.returns-in-Err-clause-any_moment
returns-in-Err-clause-any_moment g c = search rules
