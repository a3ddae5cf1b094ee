use Rattle.accord.proofs.Following.{beginnings_follow}
use Rattle.accord.proofs.following_laws.beginnings_follow.Goals as goal

pub returns : goal.returns
returns g c = beginnings_follow _
