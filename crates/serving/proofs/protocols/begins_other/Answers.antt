use Rattle.serving.specs.Protocols.{Begins, others}
use Rattle.serving.proofs.Prefixes.{none_of}
use Rattle.serving.proofs.protocols.begins_other.Goals as goal

pub returns-clause-none : goal.returns-clause-none
returns-clause-none c = λ is_none other. none_of (λ mark. Begins c.args.bytes.now mark) others (c.begins.ensures.none is_none) other
