use Rattle.std.proofs.Common.{◌≡◌, drop}
use Rattle.tuples.specs.Parts.{own_changes}
use Rattle.tuples.proofs.part.first_change.Given as goal

-- the shard's own are those from here on
abbrev pub invariant-loop-i : goal.invariant-loop-i
invariant-loop-i l = own_changes l.shards l.shard l.changes ≡ own_changes l.shards l.shard (drop l.i l.changes)
