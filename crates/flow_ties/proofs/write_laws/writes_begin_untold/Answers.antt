use Rattle.flow_ties.proofs.ToldWrites.{writes_begin_untold}
use Rattle.flow_ties.proofs.write_laws.writes_begin_untold.Goals as goal

pub returns : goal.returns
returns c = writes_begin_untold
