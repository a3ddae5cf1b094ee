use Rattle.flow_ties.proofs.ToldWrites.{writes_refuse_as_told}
use Rattle.flow_ties.proofs.write_laws.writes_refuse_as_told.Goals as goal

pub returns : goal.returns
returns c = writes_refuse_as_told
