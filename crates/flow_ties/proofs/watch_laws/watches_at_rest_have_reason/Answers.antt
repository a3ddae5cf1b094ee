use Rattle.flow_ties.proofs.ToldWatches.{watches_at_rest_have_reason}
use Rattle.flow_ties.proofs.watch_laws.watches_at_rest_have_reason.Goals as goal

pub returns : goal.returns
returns c = watches_at_rest_have_reason
