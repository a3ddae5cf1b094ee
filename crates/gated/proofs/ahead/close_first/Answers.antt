use Rattle.std.proofs.Common.{◌∷◌, [], inl, ⊎_elim}
use Rattle.std.proofs.lemmas.Bool.{cases_Bool}
use Rattle.std.proofs.lemmas.Result.{on_ok_weaker}
use Rattle.device.specs.Device.{left}
use Rattle.device.proofs.Moments.{leaves_map}
use Rattle.gated.specs.Gated.{IsOldOrNone}
use Rattle.gated.proofs.Calls.{put_durable}
use Rattle.gated.proofs.Cleared.{cleared, first_leaves, none_listed}
use Rattle.gated.proofs.ahead.close_first.Goals as goal

pub returns-clause-ready : goal.returns-clause-ready
returns-clause-ready g c = λ hon. on_ok_weaker c.put.result (cleared (g.D.Device.state c.args.device.now) (g.D.Device.state c.put.new.device)) (c.put.ensures.ok hon)

pub returns-clause-ok : goal.returns-clause-ok
returns-clause-ok g c = λ hon.
    on_ok_weaker c.put.result (λ put. none_listed (g.D.Device.state c.put.new.device) (cleared (g.D.Device.state c.args.device.now) (g.D.Device.state c.put.new.device) put)) (c.put.ensures.ok hon)

pub returns-clause-any_moment : goal.returns-clause-any_moment
returns-clause-any_moment g c = λ bodies hon has.
    let old = c.args.device.now in
    let s = g.D.Device.state old in
    ⊎_elim
    (λ down. leaves_map g.D.Device.moment g.D.Device.left_since old c.put.new.device (left s) (IsOldOrNone bodies) (λ x l. inl (has x l)) (c.put.ensures.still down hon))
    (λ up.
    let r = c.requires.ready hon up in
    leaves_map g.D.Device.moment g.D.Device.left_since old c.put.new.device _ (IsOldOrNone bodies) (first_leaves s c.args.end r c.requires.some bodies has) (c.put.ensures.any_moment hon))
    (cases_Bool s.stopped)

pub returns-clause-durable : goal.returns-clause-durable
returns-clause-durable g c = λ hon.
    on_ok_weaker c.put.result (put_durable (g.D.Device.state c.args.device.now) 0 (0 ∷ []) (g.D.Device.state c.put.new.device)) (c.put.ensures.ok hon)
