use Rattle.accord.proofs.OwnedLists.{found_lists_are_owned}
use Rattle.accord.proofs.owned_list_laws.found_lists_are_owned.Goals as goal

pub returns : goal.returns
returns c = found_lists_are_owned
