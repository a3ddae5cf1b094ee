use Rattle.accord.proofs.OwnedLists.{restarts_keep_owners}
use Rattle.accord.proofs.owned_list_laws.restarts_keep_owners.Goals as goal

pub returns : goal.returns
returns c = restarts_keep_owners
