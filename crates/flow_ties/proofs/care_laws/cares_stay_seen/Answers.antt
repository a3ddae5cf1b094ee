use Rattle.flow_ties.proofs.SeenCares.{cares_stay_seen}
use Rattle.flow_ties.proofs.care_laws.cares_stay_seen.Goals as goal

pub returns : goal.returns
returns c = cares_stay_seen
