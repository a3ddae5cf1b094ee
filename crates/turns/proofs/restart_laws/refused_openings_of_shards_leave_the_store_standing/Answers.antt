use Rattle.turns.proofs.RefusedOpening.{refused_shards_stand}
use Rattle.turns.proofs.restart_laws.refused_openings_of_shards_leave_the_store_standing.Goals as goal

pub returns : goal.returns
returns g c = λ store shards. refused_shards_stand store shards g.W.Leavings.left g.W.Leavings.left_after
