use Rattle.flow_ties.proofs.SeenCares.{cares_begin}
use Rattle.flow_ties.proofs.care_laws.cares_begin.Goals as goal

pub returns : goal.returns
returns c = cares_begin
