use Rattle.std.proofs.Common.{[], false, Some, inl, inr, ⊎_elim, ◌∙◌, ap}
use Rattle.device.proofs.Moments.{leaves_map}
use Rattle.gated.specs.Gated.{IsOldOrNew}
use Rattle.records.specs.Format.{batch_bytes}
use Rattle.journal.specs.Beginnings.{HasNoneOrBegins}
use Rattle.journal.proofs.Beginnings.{one_or_none}
use Rattle.journal.proofs.begun.append_begin.Goals as goal

pub returns-in-Ok-clause-begun : goal.returns-in-Ok-clause-begun
returns-in-Ok-clause-begun g c = λ hon list. record {
  body = batch_bytes false c.args.piece.now;
  read = c.append_to.ensures.read ∙ ap Some c.requires.begins;
  list = c.in-Ok.ensures.ok [] hon list;
  none = c.in-Ok.ensures.ahead hon;
  up = c.in-Ok.ensures.up hon;
}

pub returns-in-Ok-clause-any_moment : goal.returns-in-Ok-clause-any_moment
returns-in-Ok-clause-any_moment g c = λ hon list.
    leaves_map g.D.Device.moment g.D.Device.left_since c.args.log.now.device c.append_to.new.log.device (IsOldOrNew [] (batch_bytes false c.args.piece.now)) HasNoneOrBegins
    (λ x is. one_or_none (batch_bytes false c.args.piece.now) x (c.append_to.ensures.read ∙ ap Some c.requires.begins) is) (c.append_to.ensures.any_moment [] hon list)

pub returns-in-Err-clause-any_moment : goal.returns-in-Err-clause-any_moment
returns-in-Err-clause-any_moment g c = λ hon list.
    leaves_map g.D.Device.moment g.D.Device.left_since c.args.log.now.device c.append_to.new.log.device (IsOldOrNew [] (batch_bytes false c.args.piece.now)) HasNoneOrBegins
    (λ x is. one_or_none (batch_bytes false c.args.piece.now) x (c.append_to.ensures.read ∙ ap Some c.requires.begins) is) (c.append_to.ensures.any_moment [] hon list)

pub returns-in-Err-clause-cause : goal.returns-in-Err-clause-cause
returns-in-Err-clause-cause g c = ⊎_elim (λ is. inl is) (λ lacks. inr (record { at = c.args.log.now.end; piece = c.args.piece.now; lacks = lacks })) c.in-Err.ensures.cause
