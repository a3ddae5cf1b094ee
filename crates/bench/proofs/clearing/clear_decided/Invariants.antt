use Rattle.bench.proofs.clearing.clear_decided.Given as goal

abbrev pub decreases-loop-one : goal.decreases-loop-one
decreases-loop-one l = goal.left-loop-one l
