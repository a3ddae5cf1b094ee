use Rattle.versions.proofs.Alike.{reads_alike}
use Rattle.versions.proofs.versions.read_alike.Goals as goal

pub returns : goal.returns
returns c = reads_alike
