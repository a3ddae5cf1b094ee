use Rattle.accord.proofs.Owners.{undecided_is_unlisted}
use Rattle.accord.proofs.owning_laws.undecided_is_unlisted.Goals as goal

pub returns : goal.returns
returns c = undecided_is_unlisted
