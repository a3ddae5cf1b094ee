use Rattle.std.proofs.Common.{[]}
use Rattle.threads_run.proofs.opening.run_over_parts.Given as goal

abbrev pub ghosts-run_over : goal.ghosts-run_over
ghosts-run_over g a = record { log = a.parts.words; attempts = a.parts.attempts; launches = a.parts.launches; store = 1; shards = 4; rests = Unit {0}; first = []; low = 0 }
