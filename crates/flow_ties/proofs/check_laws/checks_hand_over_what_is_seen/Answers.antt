use Rattle.flow_ties.proofs.SeenChecks.{checks_hand_over_what_is_seen}
use Rattle.flow_ties.proofs.check_laws.checks_hand_over_what_is_seen.Goals as goal

pub returns : goal.returns
returns c = checks_hand_over_what_is_seen
