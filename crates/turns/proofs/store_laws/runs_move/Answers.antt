use Rattle.stores.specs.Stands.{IsHorizonIn}
use Rattle.turns.proofs.RunChain.{runs_move}
use Rattle.turns.proofs.store_laws.runs_move.Goals as goal

pub returns : goal.returns
returns g c = λ store shards nodes. runs_move shards (IsHorizonIn store shards g.W.Leavings.left nodes)
