use Rattle.flow_ties.proofs.SeenChecks.{checks_stay_seen}
use Rattle.flow_ties.proofs.check_laws.checks_stay_seen.Goals as goal

pub returns : goal.returns
returns c = checks_stay_seen
