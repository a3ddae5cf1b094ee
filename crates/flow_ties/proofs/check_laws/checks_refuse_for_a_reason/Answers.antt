use Rattle.flow_ties.proofs.ToldChecks.{checks_refuse_for_a_reason}
use Rattle.flow_ties.proofs.check_laws.checks_refuse_for_a_reason.Goals as goal

pub returns : goal.returns
returns c = checks_refuse_for_a_reason
