use Rattle.turns.proofs.Chains.{stopped_openings_rest}
use Rattle.turns.proofs.store_laws.stopped_openings_rest.Goals as goal

pub returns : goal.returns
returns g c = λ store shards. stopped_openings_rest g.D.Device.state g.D.Device.honest g.D.Device.moment g.D.Device.left_since store shards
