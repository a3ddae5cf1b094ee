use Rattle.flow_ties.proofs.SeenChecks.{checks_begin_at_places}
use Rattle.flow_ties.proofs.check_laws.checks_begin_at_places.Goals as goal

pub returns : goal.returns
returns c = checks_begin_at_places
