use Rattle.flow_ties.proofs.SeenReads.{reads_begin}
use Rattle.flow_ties.proofs.read_laws.reads_begin.Goals as goal

pub returns : goal.returns
returns c = reads_begin
