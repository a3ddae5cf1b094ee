use Rattle.turns.proofs.ClosedStoreRests.{closed_stores_rest}
use Rattle.turns.proofs.store_laws.closed_stores_rest.Goals as goal

pub returns : goal.returns
returns g c = λ store shards. closed_stores_rest g.D.Device.state g.D.Device.honest g.D.Device.moment g.D.Device.left_since store shards
