use Rattle.ties.proofs.Deciding.{kept_attempts_stand}
use Rattle.ties.proofs.deciding_laws.kept_attempts_stand.Goals as goal

pub returns : goal.returns
returns g c = kept_attempts_stand g.D.Device.state g.D.Device.honest
