use Rattle.bench.proofs.clearing.clear_intents.Given as goal

abbrev pub decreases-loop-intent : goal.decreases-loop-intent
decreases-loop-intent l = goal.left-loop-intent l
