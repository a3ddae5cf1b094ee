use Rattle.std.proofs.Common.{◌≡◌, drop, map}
use Rattle.journal.specs.Records.{batches}
use Rattle.journal.specs.Summaries.{no_summary, then_summary}
use Rattle.journal.proofs.summary.summarised.Given as goal

-- what is counted, and what the batches from here on add
abbrev pub invariant-loop-body : goal.invariant-loop-body
invariant-loop-body l = then_summary l.summary (batches (map (λ b. b.items) (drop l.body-index l.bodies))) ≡ then_summary no_summary (batches (map (λ b. b.items) l.bodies))
