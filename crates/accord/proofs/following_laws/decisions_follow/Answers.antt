use Rattle.accord.proofs.Following.{decisions_follow}
use Rattle.accord.proofs.following_laws.decisions_follow.Goals as goal

pub returns : goal.returns
returns g c = decisions_follow _
