use Rattle.std.proofs.Common.{◌∙◌, ap}
use Rattle.cluster.specs.Worlds.{WorldView}
use Rattle.cluster.proofs.world.World.rows.Goals as goal

-- the nodes are those of the world as it is seen
pub returns : goal.returns
returns g c = rw (← (c.deref.ensures.value ∙ ap (λ (w : WorldView _). w.nodes) c.self.view_is)) c.rows_of.ensures
