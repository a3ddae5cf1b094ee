use Rattle.flow_ties.proofs.SeenReads.{reads_stay_seen}
use Rattle.flow_ties.proofs.read_laws.reads_stay_seen.Goals as goal

pub returns : goal.returns
returns c = reads_stay_seen
