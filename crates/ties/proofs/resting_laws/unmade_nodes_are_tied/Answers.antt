use Rattle.ties.proofs.Unmade.{unmade_nodes_are_tied}
use Rattle.ties.proofs.resting_laws.unmade_nodes_are_tied.Goals as goal

pub returns : goal.returns
returns g c = unmade_nodes_are_tied g.D.Device.state g.D.Device.honest
