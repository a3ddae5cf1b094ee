use Rattle.headline.proofs.Found as found
use Rattle.headline.proofs.found_laws.what_stands_behind_counts_for_nothing.Goals as goal

pub returns : goal.returns
returns c = found.what_stands_behind_counts_for_nothing
