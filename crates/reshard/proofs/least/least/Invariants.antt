use Rattle.reshard.proofs.Picked.{PicksFrom}
use Rattle.reshard.proofs.least.least.Given as goal

-- of the lists from here on
abbrev pub invariant-loop-index : goal.invariant-loop-index
invariant-loop-index l = PicksFrom l.owns l.index l.least

abbrev pub decreases-loop-index : goal.decreases-loop-index
decreases-loop-index l = l.index
