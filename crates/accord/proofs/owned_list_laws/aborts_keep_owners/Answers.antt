use Rattle.accord.proofs.OwnedLists.{aborts_keep_owners}
use Rattle.accord.proofs.owned_list_laws.aborts_keep_owners.Goals as goal

pub returns : goal.returns
returns c = aborts_keep_owners
