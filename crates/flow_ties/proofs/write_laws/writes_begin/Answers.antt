use Rattle.flow_ties.proofs.SeenWrites.{writes_begin}
use Rattle.flow_ties.proofs.write_laws.writes_begin.Goals as goal

pub returns : goal.returns
returns g c = writes_begin g.L.Links.links
