use Rattle.std.proofs.Common.{◌≡◌, length, drop, arith}
use Rattle.std.proofs.lemmas.Grind.{common_steps}
use Rattle.serving.proofs.Prefixes.{passes}
use Rattle.serving.proofs.guarding.GuardedRead.read.Goals as goal

pub returns-then-is_empty-clause-bytes : goal.returns-then-is_empty-clause-bytes
returns-then-is_empty-clause-bytes g c =
    let none : length (drop c.args.self.now.given c.args.self.now.first.items) ≡ 0 = grind (arith, common_steps) in
    passes (g.R.Read.remaining c.args.self.now.input) (g.R.Read.remaining c.read.new.self) _ c.read.new.buf c.read.result none c.read.ensures.bytes
