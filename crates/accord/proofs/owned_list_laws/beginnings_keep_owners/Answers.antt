use Rattle.accord.proofs.OwnedLists.{beginnings_keep_owners}
use Rattle.accord.proofs.owned_list_laws.beginnings_keep_owners.Goals as goal

pub returns : goal.returns
returns c = beginnings_keep_owners
