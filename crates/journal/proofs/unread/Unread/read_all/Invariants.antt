use Rattle.std.proofs.Common.{◌≡◌, Some}
use Rattle.journal.specs.Records.{both}
use Rattle.journal.proofs.unread.Unread.read_all.Given as goal

abbrev pub invariant-loop-records : goal.invariant-loop-records
invariant-loop-records l = l.fn.self.records ≡ both (Some l.records.items) l.self.records

abbrev pub decreases-loop-records : goal.decreases-loop-records
decreases-loop-records l = l.self.steps
