use Rattle.flow_ties.proofs.SeenReads.{reads_hand_over_what_is_seen}
use Rattle.flow_ties.proofs.read_laws.reads_hand_over_what_is_seen.Goals as goal

pub returns : goal.returns
returns c = reads_hand_over_what_is_seen
