use Rattle.std.proofs.Common.{◌≡◌, drop}
use Rattle.device.specs.Unsynced.{rewritten}
use Rattle.device.proofs.content.write_again.Given as goal

abbrev pub invariant-loop-call : goal.invariant-loop-call
invariant-loop-call l = rewritten l.content.items (drop l.call-index l.calls) ≡ rewritten l.fn.content.items l.calls
