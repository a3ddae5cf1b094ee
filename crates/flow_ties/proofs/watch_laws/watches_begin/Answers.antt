use Rattle.flow_ties.proofs.SeenWatches.{watches_begin}
use Rattle.flow_ties.proofs.watch_laws.watches_begin.Goals as goal

pub returns : goal.returns
returns c = watches_begin
