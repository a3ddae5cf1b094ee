use Rattle.std.proofs.Common.{◌≡◌, drop}
use Rattle.journal.specs.Summaries.{summary_from}
use Rattle.journal.proofs.summary.Summary.with_all.Given as goal

-- what is counted, and what the records from here on add
abbrev pub invariant-loop-record : goal.invariant-loop-record
invariant-loop-record l = summary_from l.summary (drop l.record-index l.records) ≡ summary_from l.fn.self l.records
