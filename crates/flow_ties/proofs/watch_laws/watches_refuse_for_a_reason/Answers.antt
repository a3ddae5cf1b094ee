use Rattle.flow_ties.proofs.ToldWatches.{watches_refuse_for_a_reason}
use Rattle.flow_ties.proofs.watch_laws.watches_refuse_for_a_reason.Goals as goal

pub returns : goal.returns
returns c = watches_refuse_for_a_reason
