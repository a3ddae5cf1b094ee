use Rattle.std.proofs.Common.{◌≡◌, drop}
use Rattle.records.specs.Replays.{without_placed_ids}
use Rattle.holds.proofs.holds.Holds.release_placed_ids.Given as goal

-- what is left is what the placed ids from here on leave of it
abbrev pub invariant-loop-placed_id : goal.invariant-loop-placed_id
invariant-loop-placed_id l = without_placed_ids l.placed_ids l.fn.self ≡ without_placed_ids (drop l.placed_id-index l.placed_ids) l.self
