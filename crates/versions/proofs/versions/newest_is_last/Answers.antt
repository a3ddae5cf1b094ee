use Rattle.versions.proofs.Newest.{newest_is_last}
use Rattle.versions.proofs.versions.newest_is_last.Goals as goal

pub returns : goal.returns
returns c = newest_is_last
