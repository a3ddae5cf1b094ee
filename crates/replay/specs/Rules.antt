-- The rules of what may come next, as tests.
use Rattle.std.specs.Prelude.{Bool, true, false, not, ◌&&◌, ◌==◌, List, [], ◌∷◌, is_some, if◌then◌else◌}
use Rattle.tuples.specs.declared.tuple.Tuple.{Tuple}
use Rattle.tuples.specs.declared.entry.Entry.{Entry}
use Rattle.tuples.specs.declared.entry.WriteId.{WriteId}
use Rattle.tuples.specs.Log.{same_id}
use Rattle.tuples.specs.Parts.{shard_of}
use Rattle.records.specs.declared.record.PlacedId.{PlacedId}
use Rattle.records.specs.Replays.{Identity, find_in_doubt}

-- the tuple is this shard's
abbrev pub is_own : Identity → Tuple → Bool
is_own me t = shard_of me.shards t.object == me.node

-- one of the placed ids is of this write
abbrev pub has_placed_id : WriteId → List PlacedId → Bool
has_placed_id id [] = false
has_placed_id id (p ∷ placed_ids) = if same_id p.id id then true else has_placed_id id placed_ids

-- the placed ids name writes in doubt, each a different one
abbrev pub are_prepared : List PlacedId → List Entry → Bool
are_prepared [] ws = true
are_prepared (p ∷ placed_ids) ws = (is_some (find_in_doubt p.id ws) && not (has_placed_id p.id placed_ids)) && are_prepared placed_ids ws
