use Rattle.std.proofs.Common.{◌≡◌, ◌++◌, drop}
use Rattle.records.specs.Replays.{learned_rows}
use Rattle.versions.specs.Placed.{all_placed}
use Rattle.replay.proofs.learning.learned_changes.Given as goal

-- what is there, and what the placed ids from here on add
abbrev pub invariant-loop-placed_id : goal.invariant-loop-placed_id
invariant-loop-placed_id l = all_placed l.writes.items ++ learned_rows (drop l.placed_id-index l.placed_ids) l.holds ≡ learned_rows l.placed_ids l.holds
