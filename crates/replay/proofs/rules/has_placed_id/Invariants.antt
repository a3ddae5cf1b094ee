use Rattle.std.proofs.Common.{◌≡◌, drop}
use Rattle.replay.specs.Rules.{has_placed_id}
use Rattle.replay.proofs.rules.has_placed_id.Given as goal

-- a placed id is there if it is there from here on
abbrev pub invariant-loop-placed_id : goal.invariant-loop-placed_id
invariant-loop-placed_id l = has_placed_id l.id l.placed_ids ≡ has_placed_id l.id (drop l.placed_id-index l.placed_ids)
