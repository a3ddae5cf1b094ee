use Rattle.flow_ties.proofs.SeenWrites.{writes_are_relinked}
use Rattle.flow_ties.proofs.write_laws.writes_are_relinked.Goals as goal

pub returns : goal.returns
returns g c = writes_are_relinked g.L.Links.links g.M.Links.links
