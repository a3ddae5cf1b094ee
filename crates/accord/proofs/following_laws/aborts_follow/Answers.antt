use Rattle.accord.proofs.Following.{aborts_follow}
use Rattle.accord.proofs.following_laws.aborts_follow.Goals as goal

pub returns : goal.returns
returns g c = aborts_follow _
