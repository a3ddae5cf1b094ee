use Rattle.flow_ties.proofs.SeenReads.{reads_answer_what_is_seen}
use Rattle.flow_ties.proofs.read_laws.reads_answer_what_is_seen.Goals as goal

pub returns : goal.returns
returns c = reads_answer_what_is_seen
