use Rattle.flow_ties.proofs.SeenWatches.{watches_list_what_is_seen}
use Rattle.flow_ties.proofs.watch_laws.watches_list_what_is_seen.Goals as goal

pub returns : goal.returns
returns c = watches_list_what_is_seen
