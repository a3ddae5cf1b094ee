use Rattle.std.proofs.Common.{take}
use Rattle.std.specs.List.{flat_map}
use Rattle.records.specs.Format.{change_bytes}
use Rattle.records.proofs.Putting.{HasPut}
use Rattle.records.proofs.put_write.put_each_change.Given as goal

-- those before this one were put
abbrev pub invariant-loop-change : goal.invariant-loop-change
invariant-loop-change l = HasPut l.fn.out l.out (flat_map change_bytes (take l.change-index l.changes))
