use Rattle.laws.proofs.KeptVersions.{versions_give_snapshots}
use Rattle.laws.proofs.log_laws.versions_give_snapshots.Goals as goal

pub returns : goal.returns
returns c = versions_give_snapshots
