use Rattle.std.proofs.Common.{inl, inr, ⊎_elim, ◌⊎◌, refl}
use Rattle.std.proofs.lemmas.Result.{IfErr-weaker}
use Rattle.reshard.specs.Refusing.{IsNotKnown, IsNotWritten}
use Rattle.reshard.proofs.Caring.{cared_cares}
use Rattle.reshard.proofs.Down.{first_is_one, none_is_down}
use Rattle.reshard.proofs.resharding.carry_over.Goals as goal

pub returns-in-Ok-clause-cares : goal.returns-in-Ok-clause-cares
returns-in-Ok-clause-cares g c = cared_cares g.D.Device.state g.D.Device.honest g.D.Device.moment g.D.Device.left_since c.args.old.now c.close.new.old c.in-Ok.ensures.cared.1

pub returns-in-Ok-clause-not_up : goal.returns-in-Ok-clause-not_up
returns-in-Ok-clause-not_up g c = λ e down. absurd (none_is_down g.D.Device.state g.D.Device.honest c.args.old.now e c.in-Ok.ensures.cared.0 down)

pub returns-in-Ok-clause-err : goal.returns-in-Ok-clause-err
returns-in-Ok-clause-err g c =
    IfErr-weaker c.carry.result (λ e. IsNotKnown g.D.Device.state g.D.Device.honest c.close.new.old e.0 ⊎ IsNotWritten g.D.Device.state g.D.Device.honest c.args.devices.items c.close.new.old.nodes e.0) _
    (λ e why. inr (inr (cared_cares g.D.Device.state g.D.Device.honest g.D.Device.moment g.D.Device.left_since c.args.old.now c.close.new.old c.in-Ok.ensures.cared.1, why)))
    c.carry.ensures.err

pub returns-in-Err-clause-not_up : goal.returns-in-Err-clause-not_up
returns-in-Err-clause-not_up g c = λ e down. ⊎_elim
    (λ nothing. (refl, (first_is_one g.D.Device.state g.D.Device.honest c.args.old.now _ e nothing.0 down, refl), nothing.1))
    (λ up. absurd (none_is_down g.D.Device.state g.D.Device.honest c.args.old.now e up.0 down))
    c.in-Err.ensures.err

pub returns-in-Err-clause-err : goal.returns-in-Err-clause-err
returns-in-Err-clause-err g c = ⊎_elim (λ nothing. inl nothing) (λ up. inr (inl up.1)) c.in-Err.ensures.err
