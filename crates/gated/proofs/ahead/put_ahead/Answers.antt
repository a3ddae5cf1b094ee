use Rattle.std.proofs.Common.{◌≡◌, ◌+◌, Some, ◌∷◌, [], length, ap, ⊎_elim, arith, length-append}
use Rattle.std.proofs.lemmas.Bool.{cases_Bool}
use Rattle.std.proofs.lemmas.Result.{IfOk-from_err, on_ok_weaker}
use Rattle.gated.specs.Gated.{body_of, gated}
use Rattle.gated.proofs.Appends.{body_fits, length-body}
use Rattle.gated.proofs.Calls.{still_moments, write_moments, written_or_not}
use Rattle.gated.proofs.WrittenAhead.{ahead_more, at_within, list_stays}
use Rattle.gated.proofs.ahead.put_ahead.Goals as goal

pub write_at-requires : goal.write_at-requires
write_at-requires g c = λ hon up.
    let has = c.requires.ready hon up in
    let within = at_within (g.D.Device.state c.args.device.now) c.args.end c.args.at has.ahead has.is in
    omega (arith, within)

pub returns-clause-ok : goal.returns-clause-ok
returns-clause-ok g c = λ ahead hon is.
    let buf = c.args.buf.now in
    on_ok_weaker c.write_at.result
    (λ wrote. ahead_more (g.D.Device.state c.args.device.now) c.args.end c.args.at ahead is (body_of buf) c.frame.new.buf (g.D.Device.state c.write_at.new.self) (body_fits buf c.requires.some c.requires.fits) c.frame.ensures wrote
    (length buf) (omega (arith, ap length c.frame.ensures, length-body buf c.requires.some, c.requires.some, length-append (body_of buf) (165 ∷ []))))
    (c.write_at.ensures.ok hon)

pub returns-clause-ready : goal.returns-clause-ready
returns-clause-ready g c = λ hon.
    let s = g.D.Device.state c.args.device.now in
    ⊎_elim
    (λ down. IfOk-from_err c.write_at.result _ (c.write_at.ensures.down down).0)
    (λ up. let has = c.requires.ready hon up in on_ok_weaker c.write_at.result (λ is. record { ahead = _; is = is }) (returns-clause-ok g c has.ahead hon has.is))
    (cases_Bool s.stopped)

pub returns-clause-any_moment : goal.returns-clause-any_moment
returns-clause-any_moment g c = λ bodies hon has.
    let old = c.args.device.now in
    let new = c.write_at.new.self in
    let s = g.D.Device.state old in
    ⊎_elim
    (λ down. still_moments g.D.Device.moment g.D.Device.left_since g.D.Device.state old new (λ x. gated x ≡ Some bodies) (λ x is. g.met.D.Device.only_now old x hon is) (c.write_at.ensures.time hon) ((c.write_at.ensures.down down).1 hon) has)
    (λ up.
    let ahead = c.requires.ready hon up in
    let tore = written_or_not s (c.args.at + 1) c.frame.new.buf (g.D.Device.state new) c.write_at.result (c.write_at.ensures.ok hon) (c.write_at.ensures.torn hon) in
    write_moments g.D.Device.moment g.D.Device.left_since g.D.Device.state old new (λ x. gated x ≡ Some bodies) (λ x is. g.met.D.Device.only_now old x hon is) (c.write_at.ensures.time hon)
    (c.args.at + 1) (length c.frame.new.buf) tore
    (list_stays s c.args.end c.args.at ahead.ahead ahead.is bodies has (c.args.at + 1) (length c.frame.new.buf) (omega (arith, ahead.is.at_is))))
    (cases_Bool s.stopped)
