use Rattle.flow_ties.proofs.ToldChecks.{checks_at_rest_have_reason}
use Rattle.flow_ties.proofs.check_laws.checks_at_rest_have_reason.Goals as goal

pub returns : goal.returns
returns c = checks_at_rest_have_reason
