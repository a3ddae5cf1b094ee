use Rattle.bench.proofs.clearing.clear_votes.Given as goal

abbrev pub decreases-loop-vote : goal.decreases-loop-vote
decreases-loop-vote l = goal.left-loop-vote l
