use Rattle.std.proofs.Common.{◌≡◌, take}
use Rattle.std.specs.List.{list_any}
use Rattle.tuples.specs.declared.entry.Entry.{Entry}
use Rattle.tuples.specs.declared.entry.WriteId.{WriteId}
use Rattle.tuples.specs.Log.{same_id}
use Rattle.shard.specs.Keeping.{has_id}
use Rattle.shard.specs.Own.{AreNewIdsTo}
use Rattle.shard.proofs.learning.are_new_by_set.Given as goal

abbrev pub invariant-loop-i : goal.invariant-loop-i
invariant-loop-i l = record {
  new : AreNewIdsTo l.i l.writes;
  seen : (j : WriteId) → has_id j l.seen ≡ list_any (λ (w : Entry). same_id w.id j) (take l.i l.writes);
}
