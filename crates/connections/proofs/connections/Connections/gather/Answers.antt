use Rattle.connections.proofs.Keeping.{merges_workers, none_twice}
use Rattle.connections.proofs.connections.Connections.gather.Goals as goal

pub absorb-requires-clause-rule : goal.absorb-requires-clause-rule
absorb-requires-clause-rule g c = merges_workers _ _ _ _

pub learn_as-requires-clause-rule : goal.learn_as-requires-clause-rule
learn_as-requires-clause-rule g c = none_twice _ _
