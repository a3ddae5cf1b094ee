use Rattle.accord.proofs.OwnedLists.{decisions_keep_owners}
use Rattle.accord.proofs.owned_list_laws.decisions_keep_owners.Goals as goal

pub returns : goal.returns
returns c = decisions_keep_owners
