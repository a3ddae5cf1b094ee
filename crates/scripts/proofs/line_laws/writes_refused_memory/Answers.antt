use Rattle.scripts.proofs.RefusedWrites.{writes_refused_memory}
use Rattle.scripts.proofs.line_laws.writes_refused_memory.Goals as goal

pub returns : goal.returns
returns g c = writes_refused_memory g.P.Supply.gives g.D.Device.set_to_fail g.D.Device.state g.D.Device.honest g.D.Device.moment g.D.Device.left_since
