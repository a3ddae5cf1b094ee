use Rattle.std.proofs.Common.{take}
use Rattle.std.specs.List.{flat_map}
use Rattle.records.specs.Format.{placed_id_bytes}
use Rattle.records.proofs.Putting.{HasPut}
use Rattle.records.proofs.put_write.put_each_placed_id.Given as goal

-- those before this one were put
abbrev pub invariant-loop-placed_id : goal.invariant-loop-placed_id
invariant-loop-placed_id l = HasPut l.fn.out l.out (flat_map placed_id_bytes (take l.placed_id-index l.placed_ids))
