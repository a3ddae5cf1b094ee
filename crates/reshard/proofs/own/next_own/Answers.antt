use Rattle.std.proofs.Common.{rules}
use Rattle.reshard.proofs.own.next_own.Goals as goal

pub loop-tuple-preserved : goal.loop-tuple-preserved
loop-tuple-preserved c = search rules
