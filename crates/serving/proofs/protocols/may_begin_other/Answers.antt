use Rattle.serving.specs.Protocols.{Begins, others}
use Rattle.serving.proofs.Prefixes.{none_of}
use Rattle.serving.proofs.protocols.may_begin_other.Goals as goal

pub returns : goal.returns
returns c = record { none = λ is_none may. none_of (λ mark. Begins mark c.args.bytes.now) others (c.may_begin.ensures.none is_none) may }
