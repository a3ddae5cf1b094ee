use Rattle.std.proofs.Common.{rules}
use Rattle.serving.proofs.accepting.Acceptor.accept_all.Goals as goal

pub loop-preserved : goal.loop-preserved
loop-preserved g c = search rules
