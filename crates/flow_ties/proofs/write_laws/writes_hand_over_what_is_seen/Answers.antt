use Rattle.flow_ties.proofs.SeenWrites.{writes_hand_over_what_is_seen}
use Rattle.flow_ties.proofs.write_laws.writes_hand_over_what_is_seen.Goals as goal

pub returns : goal.returns
returns g c = writes_hand_over_what_is_seen g.L.Links.links
