use Rattle.reshard_laws.proofs.Words.{steps_keep}
use Rattle.reshard_laws.proofs.Flushed.{flushed_lists_are_kept}
use Rattle.reshard_laws.proofs.carried_laws.flushed_lists_are_kept.Goals as goal

pub returns : goal.returns
returns g c = flushed_lists_are_kept g.D.Device.state g.D.Device.honest g.D.Device.moment g.D.Device.left_since (steps_keep g.D.Device.state g.D.Device.honest g.D.Device.moment g.D.Device.left_since g.met.D.Device.counts_now g.met.D.Device.only_now)
