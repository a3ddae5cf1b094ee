use Rattle.bench.proofs.clearing.clear_tickets.Given as goal

abbrev pub decreases-loop-ticket : goal.decreases-loop-ticket
decreases-loop-ticket l = goal.left-loop-ticket l
