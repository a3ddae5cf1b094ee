use Rattle.headline.proofs.PastLives.{past_writes_outlive}
use Rattle.headline.proofs.headline_laws.refused_writes_outlive_their_life.Goals as goal

pub returns : goal.returns
returns g c = past_writes_outlive g.D.Device.set_to_fail g.D.Device.state g.D.Device.honest g.D.Device.moment g.D.Device.left_since g.met.D.Device.counts_now g.met.D.Device.only_now
