use Rattle.std.proofs.Common.{◌≡◌, ◌-◌}
use Rattle.records.specs.Reading.{list_at, placed_id_at}
use Rattle.records.proofs.Loop.{with_front}
use Rattle.records.proofs.read_write.so_many_placed_ids_of.Given as goal

-- what was read before and what is still read are all
abbrev pub invariant-loop : goal.invariant-loop
invariant-loop l = with_front l.placed_ids.items (list_at placed_id_at (l.count - l.counter) l.rest) ≡ list_at placed_id_at l.count l.bytes
