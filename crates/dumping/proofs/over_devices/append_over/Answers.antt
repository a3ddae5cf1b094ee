use Rattle.dumping.proofs.over_devices.append_over.Goals as goal
use Rattle.std.proofs.lemmas.Result.{on_ok_weaker}

pub returns-in-Ok : goal.returns-in-Ok
returns-in-Ok g c = on_ok_weaker c.append.result (λ h. (c.in-Ok.opened, c.append.new.store, h.0, h.1, c.in-Ok.ensures.opened, c.in-Ok.ensures.moment, h.2, h.3)) c.append.ensures.ok
