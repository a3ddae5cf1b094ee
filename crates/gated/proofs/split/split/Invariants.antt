use Rattle.std.proofs.Common.{map, length, ◌-◌}
use Rattle.gated.proofs.Splitting.{Reads}
use Rattle.gated.proofs.split.split.Given as goal

abbrev pub invariant-loop-end : goal.invariant-loop-end
invariant-loop-end l = Reads l.content (map (λ b. b.items) l.bodies.items) l.end

abbrev pub decreases-loop-end : goal.decreases-loop-end
decreases-loop-end l = length l.content - l.end
