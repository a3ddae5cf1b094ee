use Rattle.std.specs.Io.KnownBytes.{Keeps}
use Rattle.serving.specs.Protocols.{left}
use Rattle.serving.proofs.guarded.Guarded.begins_other.Given as goal

abbrev pub invariant-loop : goal.invariant-loop
invariant-loop g l = Keeps (left g.R.Read.remaining l.initial.self) (left g.R.Read.remaining l.self)
