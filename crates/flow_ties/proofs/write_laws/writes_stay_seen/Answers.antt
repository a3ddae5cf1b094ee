use Rattle.flow_ties.proofs.SeenWrites.{writes_stay_seen}
use Rattle.flow_ties.proofs.write_laws.writes_stay_seen.Goals as goal

pub returns : goal.returns
returns g c = writes_stay_seen g.L.Links.links
