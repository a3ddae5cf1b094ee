use Rattle.accord.proofs.OwnedLists.{decided_writes_stay}
use Rattle.accord.proofs.owned_list_laws.decided_writes_stay.Goals as goal

pub returns : goal.returns
returns c = decided_writes_stay
