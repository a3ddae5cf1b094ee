use Rattle.turns.proofs.Chains.{chains_run}
use Rattle.turns.proofs.store_laws.chains_run.Goals as goal

pub returns : goal.returns
returns g c = λ store shards. chains_run g.D.Device.state g.D.Device.honest g.D.Device.moment g.D.Device.left_since store shards
