use Rattle.std.specs.Io.KnownBytes.{Keeps}
use Rattle.client.proofs.waiting.WaitingRead.read.Given as goal

abbrev pub invariant-loop : goal.invariant-loop
invariant-loop g l = Keeps (g.R.Read.remaining l.initial.self.input) (g.R.Read.remaining l.self.input)
