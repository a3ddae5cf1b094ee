use Rattle.ties.proofs.Telling.{found_writes_stand}
use Rattle.ties.proofs.telling_laws.found_writes_stand.Goals as goal

pub returns : goal.returns
returns g c = found_writes_stand g.D.Device.state g.D.Device.honest
