use Rattle.flow_ties.proofs.SeenWatches.{watches_stay_seen}
use Rattle.flow_ties.proofs.watch_laws.watches_stay_seen.Goals as goal

pub returns : goal.returns
returns c = watches_stay_seen
