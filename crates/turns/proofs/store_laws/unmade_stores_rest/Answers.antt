use Rattle.turns.proofs.ClosedStoreRests.{unmade_stores_rest}
use Rattle.turns.proofs.store_laws.unmade_stores_rest.Goals as goal

pub returns : goal.returns
returns g c = λ store shards. unmade_stores_rest g.D.Device.state g.D.Device.honest g.D.Device.moment g.D.Device.left_since store shards
