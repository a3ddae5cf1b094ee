use Rattle.device.specs.Unsynced.{IsReplayed}
use Rattle.device.proofs.durable.durable_after.Given as goal

abbrev pub invariant-loop-i : goal.invariant-loop-i
invariant-loop-i l = IsReplayed l.first l.history l.content.items l.since l.i
