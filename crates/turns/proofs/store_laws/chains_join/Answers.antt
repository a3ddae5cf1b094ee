use Rattle.turns.proofs.Chains.{chains_join}
use Rattle.turns.proofs.store_laws.chains_join.Goals as goal

pub returns : goal.returns
returns g c = λ store shards. chains_join g.D.Device.state g.D.Device.honest g.D.Device.moment g.D.Device.left_since store shards
