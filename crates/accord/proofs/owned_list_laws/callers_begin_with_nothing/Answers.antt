use Rattle.accord.proofs.OwnedLists.{callers_begin_with_nothing}
use Rattle.accord.proofs.owned_list_laws.callers_begin_with_nothing.Goals as goal

pub returns : goal.returns
returns c = callers_begin_with_nothing
