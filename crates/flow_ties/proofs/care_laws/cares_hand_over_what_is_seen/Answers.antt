use Rattle.flow_ties.proofs.SeenCares.{cares_hand_over_what_is_seen}
use Rattle.flow_ties.proofs.care_laws.cares_hand_over_what_is_seen.Goals as goal

pub returns : goal.returns
returns c = cares_hand_over_what_is_seen
