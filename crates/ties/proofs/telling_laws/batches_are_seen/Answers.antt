use Rattle.ties.proofs.Telling.{batches_are_seen}
use Rattle.ties.proofs.telling_laws.batches_are_seen.Goals as goal

pub returns : goal.returns
returns g c = batches_are_seen g.D.Device.state g.D.Device.honest
