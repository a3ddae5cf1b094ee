use Rattle.std.proofs.Common.{◌≡◌, drop}
use Rattle.tuples.specs.Parts.{own_conditions}
use Rattle.tuples.proofs.part.first_condition.Given as goal

-- the shard's own are those from here on
abbrev pub invariant-loop-i : goal.invariant-loop-i
invariant-loop-i l = own_conditions l.shards l.shard l.conditions ≡ own_conditions l.shards l.shard (drop l.i l.conditions)
