use Rattle.bench.proofs.clearing.clear_ballots.Given as goal

abbrev pub decreases-loop-ballot : goal.decreases-loop-ballot
decreases-loop-ballot l = goal.left-loop-ballot l
