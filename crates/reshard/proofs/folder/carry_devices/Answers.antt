use Rattle.std.proofs.Common.{inr}
use Rattle.std.proofs.lemmas.Result.{IfErr-weaker, IfOk-weaker}
use Rattle.reshard.proofs.folder.carry_devices.Goals as goal

pub returns-in-Ok-clause-ok : goal.returns-in-Ok-clause-ok
returns-in-Ok-clause-ok g c = IfOk-weaker c.carry_world.result _ _ (λ made carries. record { opened = c.in-Ok.world; is_opened = c.in-Ok.ensures; carries = carries }) c.carry_world.ensures.ok

pub returns-in-Ok-clause-err : goal.returns-in-Ok-clause-err
returns-in-Ok-clause-err g c = IfErr-weaker c.carry_world.result _ _ (λ e why. inr (c.in-Ok.world, c.in-Ok.ensures, why)) c.carry_world.ensures.err
