use Rattle.std.proofs.Common.{◌∷◌, [], ◌++◌, length, rules}
use Rattle.device.specs.Device.{Leaves}
use Rattle.device.proofs.Moments.{leaves_then}
use Rattle.gated.proofs.Calls.{after_write, sync_moments, tore_of, write_moments}
use Rattle.gated.proofs.ahead.put.Goals as goal

pub returns-clause-ok : goal.returns-clause-ok
returns-clause-ok g c = search rules

pub returns-in_err-write_at-clause-any_moment : goal.returns-in_err-write_at-clause-any_moment
returns-in_err-write_at-clause-any_moment g c = λ hon.
    let old = c.args.device.now in
    write_moments g.D.Device.moment g.D.Device.left_since g.D.Device.state old c.write_at.new.self _ (λ x is. g.met.D.Device.only_now old x hon is) (c.write_at.ensures.time hon)
    c.args.at (length c.args.bytes.now) (c.in_err-write_at.ensures.torn hon) (λ x l. l)

pub returns-clause-any_moment : goal.returns-clause-any_moment
returns-clause-any_moment g c = λ hon.
    let old = c.args.device.now in
    let one = c.write_at.new.self in
    let s = g.D.Device.state old in
    let hon_one = c.write_at.ensures.honest.0 hon in
    let wrote = c.in_ok-write_at.ensures.ok hon in
    let tore = tore_of s c.args.at c.args.bytes.now (g.D.Device.state one) wrote in
    leaves_then g.D.Device.moment g.D.Device.left_since old one c.sync.new.self (Leaves s.durable (s.written ++ (c.args.at, length c.args.bytes.now) ∷ []))
    (write_moments g.D.Device.moment g.D.Device.left_since g.D.Device.state old one _ (λ x is. g.met.D.Device.only_now old x hon is) (c.write_at.ensures.time hon) c.args.at (length c.args.bytes.now) tore (λ x l. l))
    (sync_moments g.D.Device.moment g.D.Device.left_since g.D.Device.state one c.sync.new.self _ (λ x is. g.met.D.Device.only_now one x hon_one is) (c.sync.ensures.time hon_one) c.sync.result
    (g.met.D.Device.reads_left one hon_one wrote.stopped) (c.sync.ensures.ok hon_one) (c.sync.ensures.keeps hon_one) (after_write s c.args.at (length c.args.bytes.now) (g.D.Device.state one) tore))
