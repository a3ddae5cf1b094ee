use Rattle.ties.proofs.Resting.{resting_nodes_are_tied}
use Rattle.ties.proofs.resting_laws.resting_nodes_are_tied.Goals as goal

pub returns : goal.returns
returns g c = resting_nodes_are_tied g.D.Device.state g.D.Device.honest
