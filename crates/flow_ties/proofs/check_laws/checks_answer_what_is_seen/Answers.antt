use Rattle.flow_ties.proofs.SeenChecks.{checks_answer_what_is_seen}
use Rattle.flow_ties.proofs.check_laws.checks_answer_what_is_seen.Goals as goal

pub returns : goal.returns
returns c = checks_answer_what_is_seen
