use Rattle.ties.proofs.Telling.{heads_are_seen}
use Rattle.ties.proofs.telling_laws.heads_are_seen.Goals as goal

pub returns : goal.returns
returns g c = heads_are_seen g.D.Device.state g.D.Device.honest
