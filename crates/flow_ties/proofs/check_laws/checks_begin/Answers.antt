use Rattle.flow_ties.proofs.SeenChecks.{checks_begin}
use Rattle.flow_ties.proofs.check_laws.checks_begin.Goals as goal

pub returns : goal.returns
returns c = checks_begin
