use Rattle.turns.proofs.RefusedOpening.{shard_openings_restart}
use Rattle.turns.proofs.restart_laws.openings_of_shards_are_steps.Goals as goal

pub returns : goal.returns
returns g c = λ store shards. shard_openings_restart store shards g.W.Leavings.left g.W.Leavings.left_after
