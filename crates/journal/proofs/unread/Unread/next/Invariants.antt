use Rattle.std.proofs.Common.{◌≡◌, ◌≤◌, length, map}
use Rattle.std.specs.Vec.Iter.{into_iter_items}
use Rattle.records.specs.Format.{AreRecords}
use Rattle.journal.specs.Unread.{Left, left_of}
use Rattle.journal.proofs.unread.Unread.next.Given as goal

abbrev pub invariant-loop-record : goal.invariant-loop-record
invariant-loop-record l =
    let left : Left = left_of (into_iter_items l.self-inside.batch) (map (λ b. b.items) l.self-inside.bodies.items) in
    record {
      records : left.records ≡ l.fn.self.records;
      steps : left.steps ≤ l.fn.self.steps;
      spelled : AreRecords (into_iter_items l.self-inside.batch);
    }

abbrev pub decreases-loop-record : goal.decreases-loop-record
decreases-loop-record l = length l.self-inside.bodies.items
