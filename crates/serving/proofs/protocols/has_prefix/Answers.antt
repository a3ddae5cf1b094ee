use Rattle.serving.proofs.Prefixes.{begins_some}
use Rattle.serving.proofs.protocols.has_prefix.Goals as goal

pub returns-clause-some : goal.returns-clause-some
returns-clause-some c = begins_some c.args.bytes.now c.args.prefix.now c.starts_with.result c.starts_with.ensures.value
