use Rattle.stores.proofs.NewStore.{stands}
use Rattle.stores.proofs.flow_laws.new_stores_stand.Goals as goal

pub returns : goal.returns
returns c = stands
