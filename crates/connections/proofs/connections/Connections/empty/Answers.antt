use Rattle.connections.proofs.Keeping.{begins}
use Rattle.connections.proofs.connections.Connections.empty.Goals as goal

pub ruled-requires-clause-rule : goal.ruled-requires-clause-rule
ruled-requires-clause-rule g c = begins
