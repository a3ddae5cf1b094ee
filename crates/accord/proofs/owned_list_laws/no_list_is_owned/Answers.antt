use Rattle.accord.proofs.OwnedLists.{no_list_is_owned}
use Rattle.accord.proofs.owned_list_laws.no_list_is_owned.Goals as goal

pub returns : goal.returns
returns c = no_list_is_owned
