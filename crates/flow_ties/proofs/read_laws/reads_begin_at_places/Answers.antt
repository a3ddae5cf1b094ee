use Rattle.flow_ties.proofs.SeenReads.{reads_begin_at_places}
use Rattle.flow_ties.proofs.read_laws.reads_begin_at_places.Goals as goal

pub returns : goal.returns
returns c = reads_begin_at_places
