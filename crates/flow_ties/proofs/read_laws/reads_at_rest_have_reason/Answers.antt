use Rattle.flow_ties.proofs.ToldReads.{reads_at_rest_have_reason}
use Rattle.flow_ties.proofs.read_laws.reads_at_rest_have_reason.Goals as goal

pub returns : goal.returns
returns c = reads_at_rest_have_reason
