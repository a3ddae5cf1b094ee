use Rattle.flow_ties.proofs.ToldReads.{reads_refuse_for_a_reason}
use Rattle.flow_ties.proofs.read_laws.reads_refuse_for_a_reason.Goals as goal

pub returns : goal.returns
returns c = reads_refuse_for_a_reason
