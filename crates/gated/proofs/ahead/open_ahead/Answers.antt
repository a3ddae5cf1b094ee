use Rattle.std.proofs.Common.{◌≤◌, List, ℕ, [], ◌∷◌, ◌++◌, length, inl, arith}
use Rattle.std.proofs.lemmas.Bool.{false≢true, false_from_ne_true}
use Rattle.std.proofs.lemmas.Result.{on_ok_weaker}
use Rattle.device.specs.Device.{Leaves}
use Rattle.device.proofs.Moments.{leaves_map, leaves_then}
use Rattle.gated.specs.Gated.{HasList, IsOldOrLonger, IsReady, open_gate}
use Rattle.gated.proofs.Calls.{put_durable}
use Rattle.gated.proofs.WrittenAhead.{at_within, gate_leaves, has_longer, list_stays, ready_behind, room_for_gate, some_ahead}
use Rattle.gated.proofs.ahead.open_ahead.Goals as goal

pub put-requires : goal.put-requires
put-requires g c = λ hon up.
    let has = c.requires.ready hon up in
    let within = at_within (g.D.Device.state c.args.device.now) c.args.end c.args.at has.ahead has.is in
    omega (arith, within)

pub returns-in_err-put-clause-any_moment : goal.returns-in_err-put-clause-any_moment
returns-in_err-put-clause-any_moment g c = λ ahead bodies hon is has.
    leaves_map g.D.Device.moment g.D.Device.left_since c.args.device.now c.put.new.device _ (IsOldOrLonger bodies ahead)
    (λ x l. inl (list_stays (g.D.Device.state c.args.device.now) c.args.end c.args.at ahead is bodies has c.args.at 1 c.requires.some x l))
    (c.put.ensures.any_moment hon)

pub put-requires-2 : goal.put-requires-2
put-requires-2 g c = λ hon_mid up_mid.
    let s = g.D.Device.state c.args.device.now in
    let mid = g.D.Device.state c.put.new.device in
    let hon = c.put.ensures.honest.1 hon_mid in
    let has = c.requires.ready hon (false_from_ne_true s.stopped (λ is. false≢true (c.in_ok-put.ensures.stopped is).0)) in
    some_ahead (λ l. c.args.end ≤ length mid.seen) s c.args.end c.args.at has.ahead c.requires.some has.is (λ b bs is. room_for_gate s c.args.end c.args.at b bs is mid (c.in_ok-put.ensures.ok hon))

pub returns-clause-any_moment : goal.returns-clause-any_moment
returns-clause-any_moment g c = λ ahead bodies hon is has.
    let old = c.args.device.now in
    let s = g.D.Device.state old in
    let mid = g.D.Device.state c.put.new.device in
    let wrote = c.in_ok-put.ensures.ok hon in
    let first = leaves_map g.D.Device.moment g.D.Device.left_since old c.put.new.device _ (IsOldOrLonger bodies ahead)
    (λ x l. inl (list_stays s c.args.end c.args.at ahead is bodies has c.args.at 1 c.requires.some x l)) (c.put.ensures.any_moment hon) in
    let then : (x : List ℕ) → Leaves mid.durable (mid.written ++ (c.args.end, 1) ∷ []) x → IsOldOrLonger bodies ahead x
    = some_ahead (λ l. (x : List ℕ) → Leaves mid.durable (mid.written ++ (c.args.end, 1) ∷ []) x → IsOldOrLonger bodies l x) s c.args.end c.args.at ahead c.requires.some is
    (λ b bs one. gate_leaves s c.args.end c.args.at b bs one mid wrote bodies has) in
    leaves_then g.D.Device.moment g.D.Device.left_since old c.put.new.device c.put-2.new.device (IsOldOrLonger bodies ahead) first
    (leaves_map g.D.Device.moment g.D.Device.left_since c.put.new.device c.put-2.new.device _ (IsOldOrLonger bodies ahead) then (c.put-2.ensures.any_moment (c.put.ensures.honest.0 hon)))

pub returns-clause-ok : goal.returns-clause-ok
returns-clause-ok g c = λ ahead bodies hon is has.
    let s = g.D.Device.state c.args.device.now in
    let new = g.D.Device.state c.put-2.new.device in
    on_ok_weaker c.put-2.result
    (λ opened. some_ahead (λ l. HasList new (bodies ++ l)) s c.args.end c.args.at ahead c.requires.some is
    (λ b bs one. has_longer s c.args.end c.args.at b bs one (g.D.Device.state c.put.new.device) (c.in_ok-put.ensures.ok hon) new opened bodies has))
    (c.put-2.ensures.ok (c.put.ensures.honest.0 hon))

pub returns-clause-ready : goal.returns-clause-ready
returns-clause-ready g c = λ hon.
    let s = g.D.Device.state c.args.device.now in
    let new = g.D.Device.state c.put-2.new.device in
    let has = c.requires.ready hon (false_from_ne_true s.stopped (λ is. false≢true (c.in_ok-put.ensures.stopped is).0)) in
    on_ok_weaker c.put-2.result
    (λ opened. some_ahead (λ l. IsReady new c.args.at) s c.args.end c.args.at has.ahead c.requires.some has.is
    (λ b bs one. ready_behind s c.args.end c.args.at b bs one (g.D.Device.state c.put.new.device) (c.in_ok-put.ensures.ok hon) new opened))
    (c.put-2.ensures.ok (c.put.ensures.honest.0 hon))

pub returns-clause-durable : goal.returns-clause-durable
returns-clause-durable g c = λ hon.
    on_ok_weaker c.put-2.result (put_durable (g.D.Device.state c.put.new.device) c.args.end (open_gate ∷ []) (g.D.Device.state c.put-2.new.device)) (c.put-2.ensures.ok (c.put.ensures.honest.0 hon))
