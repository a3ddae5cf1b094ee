use Rattle.std.proofs.Common.{◌∷◌, [], length, ap, inl, ⊎_elim, arith, length-append}
use Rattle.std.proofs.lemmas.Bool.{cases_Bool, false≢true, false_from_ne_true}
use Rattle.std.proofs.lemmas.Result.{on_ok_weaker}
use Rattle.gated.specs.Gated.{body_of, IsOldOrNew}
use Rattle.gated.proofs.Calls.{put, put_durable, still_moments}
use Rattle.gated.proofs.Appends.{length-body, body_fits, room_first, room, ready, has_new, at_record, at_first_sync, at_gate_write, at_last_sync}
use Rattle.gated.proofs.append.append_at.Goals as goal

pub write_at-requires : goal.write_at-requires
write_at-requires g c = λ hon up. room_first (g.D.Device.state c.args.device.now) c.args.end (c.requires.ready hon up)

pub returns-in_err-write_at-clause-any_moment : goal.returns-in_err-write_at-clause-any_moment
returns-in_err-write_at-clause-any_moment g c = λ bodies hon has.
    let old = c.args.device.now in
    let buf = c.args.buf.now in
    ⊎_elim
    (λ down. still_moments g.D.Device.moment g.D.Device.left_since g.D.Device.state old c.write_at.new.self (IsOldOrNew bodies (body_of buf)) (λ x is. g.met.D.Device.only_now old x hon is) (c.write_at.ensures.time hon) ((c.write_at.ensures.down down).1 hon) (λ x l. inl (has x l)))
    (λ up.
    at_record g.D.Device.moment g.D.Device.left_since g.D.Device.state old (λ x is. g.met.D.Device.only_now old x hon is) c.args.end (c.requires.ready hon up) bodies has (body_of buf) c.frame.new.buf (body_fits buf c.requires.some c.requires.fits) c.frame.ensures
    c.write_at.new.self (c.write_at.ensures.time hon) (c.in_err-write_at.ensures.torn hon))
    (cases_Bool (g.D.Device.state old).stopped)

pub returns-in_err-sync-clause-any_moment : goal.returns-in_err-sync-clause-any_moment
returns-in_err-sync-clause-any_moment g c = λ bodies hon has.
    let old = c.args.device.now in
    let one = c.write_at.new.self in
    let buf = c.args.buf.now in
    let hon_one = c.write_at.ensures.honest.0 hon in
    let wrote = c.in_ok-write_at.ensures.ok hon in
    let r = c.requires.ready hon (false_from_ne_true (g.D.Device.state old).stopped (λ is. false≢true (c.in_ok-write_at.ensures.down is).0)) in
    at_first_sync g.D.Device.moment g.D.Device.left_since g.D.Device.state old (λ x is. g.met.D.Device.only_now old x hon is) c.args.end r bodies has (body_of buf) c.frame.new.buf (body_fits buf c.requires.some c.requires.fits) c.frame.ensures
    one c.sync.new.self c.sync.result (λ x is. g.met.D.Device.only_now one x hon_one is) (c.write_at.ensures.time hon) wrote (g.met.D.Device.reads_left one hon_one wrote.stopped) (c.sync.ensures.time hon_one) (c.sync.ensures.ok hon_one) (c.sync.ensures.keeps hon_one)

pub write_at-requires-2 : goal.write_at-requires-2
write_at-requires-2 g c = λ hon_two up_two.
    let s = g.D.Device.state c.args.device.now in
    let buf = c.args.buf.now in
    let hon_one = c.sync.ensures.honest.1 hon_two in
    let hon = c.write_at.ensures.honest.1 hon_one in
    let r = c.requires.ready hon (false_from_ne_true s.stopped (λ is. false≢true (c.in_ok-write_at.ensures.down is).0)) in
    let one = g.D.Device.state c.write_at.new.self in
    let two = g.D.Device.state c.sync.new.self in
    room s c.args.end r two (body_of buf) c.frame.new.buf (body_fits buf c.requires.some c.requires.fits) c.frame.ensures (put s _ _ one two (c.in_ok-write_at.ensures.ok hon) (c.in_ok-sync.ensures.ok hon_one))

pub returns-in_err-write_at-2-clause-any_moment : goal.returns-in_err-write_at-2-clause-any_moment
returns-in_err-write_at-2-clause-any_moment g c = λ bodies hon has.
    let old = c.args.device.now in
    let one = c.write_at.new.self in
    let two = c.sync.new.self in
    let buf = c.args.buf.now in
    let hon_one = c.write_at.ensures.honest.0 hon in
    let hon_two = c.sync.ensures.honest.0 hon_one in
    let wrote = c.in_ok-write_at.ensures.ok hon in
    let r = c.requires.ready hon (false_from_ne_true (g.D.Device.state old).stopped (λ is. false≢true (c.in_ok-write_at.ensures.down is).0)) in
    let record_put = put (g.D.Device.state old) _ _ (g.D.Device.state one) (g.D.Device.state two) wrote (c.in_ok-sync.ensures.ok hon_one) in
    let before = at_first_sync g.D.Device.moment g.D.Device.left_since g.D.Device.state old (λ x is. g.met.D.Device.only_now old x hon is) c.args.end r bodies has (body_of buf) c.frame.new.buf (body_fits buf c.requires.some c.requires.fits) c.frame.ensures
    one two c.sync.result (λ x is. g.met.D.Device.only_now one x hon_one is) (c.write_at.ensures.time hon) wrote (g.met.D.Device.reads_left one hon_one wrote.stopped) (c.sync.ensures.time hon_one) (c.sync.ensures.ok hon_one) (c.sync.ensures.keeps hon_one) in
    at_gate_write g.D.Device.moment g.D.Device.left_since g.D.Device.state old (λ x is. g.met.D.Device.only_now old x hon is) c.args.end r bodies has (body_of buf) c.frame.new.buf (body_fits buf c.requires.some c.requires.fits) c.frame.ensures
    two (λ x is. g.met.D.Device.only_now two x hon_two is) before record_put c.write_at-2.new.self (c.write_at-2.ensures.time hon_two) (c.in_err-write_at-2.ensures.torn hon_two)

pub returns-clause-any_moment : goal.returns-clause-any_moment
returns-clause-any_moment g c = λ bodies hon has.
    let old = c.args.device.now in
    let one = c.write_at.new.self in
    let two = c.sync.new.self in
    let three = c.write_at-2.new.self in
    let buf = c.args.buf.now in
    let hon_one = c.write_at.ensures.honest.0 hon in
    let hon_two = c.sync.ensures.honest.0 hon_one in
    let hon_three = c.write_at-2.ensures.honest.0 hon_two in
    let wrote = c.in_ok-write_at.ensures.ok hon in
    let opened = c.in_ok-write_at-2.ensures.ok hon_two in
    let r = c.requires.ready hon (false_from_ne_true (g.D.Device.state old).stopped (λ is. false≢true (c.in_ok-write_at.ensures.down is).0)) in
    let record_put = put (g.D.Device.state old) _ _ (g.D.Device.state one) (g.D.Device.state two) wrote (c.in_ok-sync.ensures.ok hon_one) in
    let before = at_first_sync g.D.Device.moment g.D.Device.left_since g.D.Device.state old (λ x is. g.met.D.Device.only_now old x hon is) c.args.end r bodies has (body_of buf) c.frame.new.buf (body_fits buf c.requires.some c.requires.fits) c.frame.ensures
    one two c.sync.result (λ x is. g.met.D.Device.only_now one x hon_one is) (c.write_at.ensures.time hon) wrote (g.met.D.Device.reads_left one hon_one wrote.stopped) (c.sync.ensures.time hon_one) (c.sync.ensures.ok hon_one) (c.sync.ensures.keeps hon_one) in
    at_last_sync g.D.Device.moment g.D.Device.left_since g.D.Device.state old (λ x is. g.met.D.Device.only_now old x hon is) c.args.end r bodies has (body_of buf) c.frame.new.buf (body_fits buf c.requires.some c.requires.fits) c.frame.ensures
    two (λ x is. g.met.D.Device.only_now two x hon_two is) before record_put three c.sync-2.new.self c.sync-2.result (λ x is. g.met.D.Device.only_now three x hon_three is)
    (c.write_at-2.ensures.time hon_two) opened (g.met.D.Device.reads_left three hon_three opened.stopped) (c.sync-2.ensures.time hon_three) (c.sync-2.ensures.ok hon_three) (c.sync-2.ensures.keeps hon_three)

pub returns-clause-ready : goal.returns-clause-ready
returns-clause-ready g c = λ hon.
    let s = g.D.Device.state c.args.device.now in
    let two = g.D.Device.state c.sync.new.self in
    let three = g.D.Device.state c.write_at-2.new.self in
    let four = g.D.Device.state c.sync-2.new.self in
    let buf = c.args.buf.now in
    let hon_one = c.write_at.ensures.honest.0 hon in
    let hon_two = c.sync.ensures.honest.0 hon_one in
    let r = c.requires.ready hon (false_from_ne_true s.stopped (λ is. false≢true (c.in_ok-write_at.ensures.down is).0)) in
    let record_put = put s _ _ (g.D.Device.state c.write_at.new.self) two (c.in_ok-write_at.ensures.ok hon) (c.in_ok-sync.ensures.ok hon_one) in
    on_ok_weaker c.sync-2.result
    (λ synced.
    ready s c.args.end r two (body_of buf) c.frame.new.buf (body_fits buf c.requires.some c.requires.fits) c.frame.ensures record_put four (put two _ _ three four (c.in_ok-write_at-2.ensures.ok hon_two) synced)
    (length buf) (omega (arith, ap length c.frame.ensures, length-body buf c.requires.some, c.requires.some, length-append (body_of buf) (0 ∷ []))))
    (c.sync-2.ensures.ok (c.write_at-2.ensures.honest.0 hon_two))

pub returns-clause-ok : goal.returns-clause-ok
returns-clause-ok g c = λ bodies hon has.
    let s = g.D.Device.state c.args.device.now in
    let two = g.D.Device.state c.sync.new.self in
    let three = g.D.Device.state c.write_at-2.new.self in
    let four = g.D.Device.state c.sync-2.new.self in
    let buf = c.args.buf.now in
    let hon_one = c.write_at.ensures.honest.0 hon in
    let hon_two = c.sync.ensures.honest.0 hon_one in
    let r = c.requires.ready hon (false_from_ne_true s.stopped (λ is. false≢true (c.in_ok-write_at.ensures.down is).0)) in
    let record_put = put s _ _ (g.D.Device.state c.write_at.new.self) two (c.in_ok-write_at.ensures.ok hon) (c.in_ok-sync.ensures.ok hon_one) in
    on_ok_weaker c.sync-2.result
    (λ synced.
    has_new s c.args.end r two (body_of buf) c.frame.new.buf (body_fits buf c.requires.some c.requires.fits) c.frame.ensures record_put four (put two _ _ three four (c.in_ok-write_at-2.ensures.ok hon_two) synced) bodies has)
    (c.sync-2.ensures.ok (c.write_at-2.ensures.honest.0 hon_two))

pub returns-clause-durable : goal.returns-clause-durable
returns-clause-durable g c = λ hon.
    let two = g.D.Device.state c.sync.new.self in
    let three = g.D.Device.state c.write_at-2.new.self in
    let four = g.D.Device.state c.sync-2.new.self in
    let hon_two = c.sync.ensures.honest.0 (c.write_at.ensures.honest.0 hon) in
    on_ok_weaker c.sync-2.result (λ synced. put_durable two _ _ four (put two _ _ three four (c.in_ok-write_at-2.ensures.ok hon_two) synced)) (c.sync-2.ensures.ok (c.write_at-2.ensures.honest.0 hon_two))
