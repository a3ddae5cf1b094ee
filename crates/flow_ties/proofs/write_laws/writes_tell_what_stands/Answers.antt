use Rattle.flow_ties.proofs.SeenWrites.{writes_tell_what_stands}
use Rattle.flow_ties.proofs.write_laws.writes_tell_what_stands.Goals as goal

pub returns : goal.returns
returns g c = writes_tell_what_stands g.L.Links.links
